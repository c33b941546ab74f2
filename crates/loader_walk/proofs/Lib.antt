-- Laws of a walk over a loader file. `Rests` says what is left from a place on, `Cases` has a step's promise by cases, `Ahead` what a step meets,
-- `All` the first refusal of a list, `Counts` that the header's counts are those of the entries, `Examining` a walk to its end. `AnyCaller` is about
-- whoever walks, `Held` about what he finds, `Agreed` about him and `examine`, `Begins` says where 72 is told. `Files` has small files, `Examples`
-- two that are read and one that is refused, `Unique` has that answers are equal, `Wrong` programs that the contracts rule out.
pub mod Rests
pub mod Cases
pub mod Ahead
pub mod All
pub mod Counts
pub mod Examining
pub mod AnyCaller
pub mod Held
pub mod Agreed
pub mod Begins
pub mod Files
pub mod Examples
pub mod Unique
pub mod Wrong
