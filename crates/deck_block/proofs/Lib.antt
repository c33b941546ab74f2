-- `Place` has for which tags a block is right, `Put` a check put in its place, `Rechecked` a block with the check of a tag, `Blocks` the blocks of an
-- input, `ByKind` goes through the kinds, `Fitting` has the bounds of what is asked for, `Refusals` the numbers of a refused block, `Unique` that the
-- contract allows one answer, `Wrong` programs that the contracts rule out.
pub mod Place
pub mod Put
pub mod Rechecked
pub mod Blocks
pub mod ByKind
pub mod Fitting
pub mod Refusals
pub mod Unique
pub mod Wrong
