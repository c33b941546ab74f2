-- `DigitLaws` has decimal and hex: read back, their characters, their lengths. `LineLaws` has a line made byte by byte and how long its text can be,
-- `Apart` what can be read off a line, `Plain` that a line is as it was unless a transfer was short, `Examples` the lines of the rules' example,
-- `Wrong` programs that the contract rules out.
pub mod DigitLaws
pub mod LineLaws
pub mod Apart
pub mod Plain
pub mod Examples
pub mod Wrong
