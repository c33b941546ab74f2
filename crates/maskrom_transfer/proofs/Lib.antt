-- `Lists` has laws on lists, `Cases` one law for each branch of a definition and what the promises of callers are made from, `Unique` that one
-- promise allows one answer, `Numbers` that an answer's number is that of what it tells, `Wrong` programs that the contracts rule out.
pub mod Lists
pub mod Cases
pub mod Unique
pub mod Numbers
pub mod Wrong
