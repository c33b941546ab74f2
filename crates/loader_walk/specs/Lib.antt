-- The entries of a loader file. `Entries` has `entries_of`, the one definition of what is in a file, and an entry's data; `Walking` is a walk over it
-- and its examination, number and values of their answers, and the shape of their promises; `Calls` has any caller who walks; `Code` is what the
-- private functions give.
pub mod Entries
pub mod Walking
pub mod Calls
pub mod Code
