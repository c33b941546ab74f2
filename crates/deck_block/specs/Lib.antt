-- A block of a deck. `Block` has its fields and its check, `Place` for which tags that is right, `Blocks` the blocks of an input, `Reading` what
-- a block asks for and its refusals in their order, `Refusals` the numbers that a block itself is refused with.
pub mod Block
pub mod Place
pub mod Blocks
pub mod Reading
pub mod Refusals
