-- `Programming` has the laws of clearing bits, `Lengths` what the length of a lent flash tells, `Frames`
-- what a bulk call leaves alone, `ReadBack` that what was written and told success is read, `Cells` which bits a byte of NOR has afterwards, `Unique`
-- that answers allowed by one contract are equal, `Wrong` programs that the contracts rule out.
pub mod Programming
pub mod Lengths
pub mod Frames
pub mod ReadBack
pub mod Cells
pub mod Unique
pub mod Wrong
