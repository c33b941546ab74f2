-- A chunk dealt block by block: `Laws` has one block, what is done so far, and all of them, `Unique` shows that a step has one answer, `Wrong` has
-- programs that the contracts rule out, `Cuts` has a deck cut into blocks and into chunks.
pub mod Laws
pub mod Unique
pub mod Wrong
pub mod Cuts
