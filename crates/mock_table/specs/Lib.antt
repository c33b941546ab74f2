-- The transaction table: `Turn` has what a bulk call comes to, `Ways` what the flash's variety decides, `Table` the rows, `Erasing` which erases are
-- taken. `Code` describes private functions of the code.
pub mod Turn
pub mod Ways
pub mod Table
pub mod Erasing
pub mod Code
