-- A deck from its input to its lines. `Deck` has the deck as a whole, `Chunk` what a chunk of it comes to and what the library promises, `Code` what
-- the private functions promise.
pub mod Deck
pub mod Chunk
pub mod Code
