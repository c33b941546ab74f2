-- Runs of a whole upload. `Load` is what one comes to, `Answers` gives number and values of every answer, `Code` has what only the private functions
-- need.
pub mod Load
pub mod Answers
pub mod Code
