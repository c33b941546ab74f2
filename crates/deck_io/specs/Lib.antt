-- `Moved` has how many bytes a chunk of input or output came to, `Input` how many of those that were read are used, `Output` what a write answers,
-- `Counts` what a count of a slice's bytes is.
pub mod Moved
pub mod Input
pub mod Output
pub mod Counts
