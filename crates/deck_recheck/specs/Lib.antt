-- A deck made before, rechecked. `Recheck` has what a block and a whole input come to and what the library promises, `Code` what the private functions
-- promise.
pub mod Recheck
pub mod Code
