-- Runs of an operation. `Run` is what one comes to, `Answers` gives number and values of every answer, `Code` has what only the private functions
-- need.
pub mod Run
pub mod Answers
pub mod Code
