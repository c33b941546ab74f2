-- `Meets` says when an outcome comes to a turn, `Codes` what a read goes by, `Sane` and `Own` what holds of every turn of the table, `Accepted` what a turn was that was not
-- refused, `Touches` what a bulk write may do to the flash, and of what 63 is told, `FirstVariety` that the first variety leaves no FAILED status and
-- never programs, `Unique` that outcomes of one turn are equal, `Wrong` programs that the contracts rule out.
pub mod Meets
pub mod Codes
pub mod Sane
pub mod Own
pub mod Accepted
pub mod Touches
pub mod FirstVariety
pub mod Unique
pub mod Wrong
