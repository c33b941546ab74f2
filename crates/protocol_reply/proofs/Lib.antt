-- Laws of replies: `Places` links the count of ones and the trailing zeros of a word to the places that are set in it, `OneBit` says which words are
-- accepted, `Masks` what a flag's mask asks, `Unique` that answers are equal; `Examples` has examples P9 to P12 of the rules, `Wrong` programs that
-- the contracts rule out.
pub mod Places
pub mod OneBit
pub mod Masks
pub mod Unique
pub mod Examples
pub mod Wrong
