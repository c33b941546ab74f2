-- A deck without kind 13. `Convert` has what a block and a whole input come to and what the library promises, `Code` what the private functions
-- promise, `Converted` what the theorems speak of.
pub mod Convert
pub mod Code
pub mod Converted
