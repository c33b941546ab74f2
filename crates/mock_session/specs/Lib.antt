-- A session of the first variety that is lent. `Start` says what it is at its start, `Lent` what a call leaves of it, `Calls` what a sequence of
-- calls comes to by value, `Sequence` what it is to make one.
pub mod Start
pub mod Lent
pub mod Calls
pub mod Sequence
