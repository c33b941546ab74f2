-- What the blocks of the protocol share. `Signature` compares one and says what stands beside an answer, `Writing` is a block put into a lent buffer,
-- `Sector` the size of a sector.
pub mod Signature
pub mod Writing
pub mod Sector
