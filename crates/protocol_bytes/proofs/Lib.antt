-- Laws: `Library` of the library's words, `Short` of short lists of bytes, `Same` of lists compared, `Writer` of a block put into a buffer, `Rewritten` of bytes written as they were
-- read, `Given` of a rule that gives; `Wrong` has programs that the contracts rule out.
pub mod Library
pub mod Short
pub mod Same
pub mod Writer
pub mod Rewritten
pub mod Given
pub mod Wrong
