-- `Unique` has that answers allowed by one contract are equal, `Sequence` that a sequence of thin calls is the same sequence by value, `Wrong`
-- programs that the contracts rule out.
pub mod Unique
pub mod Sequence
pub mod Wrong
