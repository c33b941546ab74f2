-- Laws of a loader file's records: `First` says that a header is in its first bytes, `Reading` has a reader's promise by cases, `Names` an entry's
-- name, `Headers` a header and an entry field by field, `Chip` that the chip's bytes are those of `get_u32` and `to_le_bytes`, `Unique` that answers
-- are equal, `Wrong` programs that the contracts rule out.
pub mod First
pub mod Reading
pub mod Names
pub mod Headers
pub mod Chip
pub mod Unique
pub mod Wrong
