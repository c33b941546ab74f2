-- The line of a block. `Digits` has numbers and bytes as text and how such text is read back, `Line` the text of a line and the array that it stands
-- in, `Code` what the private functions do.
pub mod Digits
pub mod Line
pub mod Code
