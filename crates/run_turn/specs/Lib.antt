-- One turn of a run. `Turn` is what it comes to, `Answers` gives number and values of every answer, `Code` has what only the private functions need.
pub mod Turn
pub mod Answers
pub mod Code
