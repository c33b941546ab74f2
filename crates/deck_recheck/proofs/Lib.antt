-- `Laws` has one block, what is rechecked so far, and all of a chunk, `Exactly` which blocks and decks are rechecked and what they are then, `Unique`
-- that a step has one answer, `Wrong` programs that the contracts rule out.
pub mod Laws
pub mod Unique
pub mod Exactly
pub mod Wrong
