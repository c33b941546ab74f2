-- `OneBlock` has whether a block is converted or left and how it is read, `Laws` the chunk so far, `Converted` what a converted block is and that none
-- is converted again, `Deck` a whole input, `AnyCaller` the theorems over the contract of `convert_chunk`, for one call and chunk by chunk, `Unique`
-- that it allows one answer, `Wrong` programs that the contracts rule out.
pub mod OneBlock
pub mod Laws
pub mod Converted
pub mod Deck
pub mod AnyCaller
pub mod Unique
pub mod Wrong
