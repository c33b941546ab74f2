-- `Search` has the laws of a search through a list, `Finding` what it says of an area, `Room` where a slot lies in its store, `Cases` the outcomes of an append, `Holdings` what callers
-- cite: areas by their numbers, `NewNumber` where a number goes that no slot is held by, `Reached` that writes from a fresh start keep the slots as
-- they are said to be; `Unique` that answers allowed by one contract are equal, `Wrong` programs that the contracts rule out.
pub mod Search
pub mod Finding
pub mod Room
pub mod Cases
pub mod Holdings
pub mod NewNumber
pub mod Reached
pub mod Unique
pub mod Wrong
