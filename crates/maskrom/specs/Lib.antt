-- Uploads. `Answers` has number and values of each answer, `PartWise` and `Whole` the two ways to hand an image over, `Calls` any sequence of calls on
-- one upload, `Made` what such a sequence from a fresh start leaves, `Code` what the private functions make.
pub mod Answers
pub mod PartWise
pub mod Whole
pub mod Calls
pub mod Made
pub mod Code
