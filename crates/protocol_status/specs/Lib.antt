-- The status block. `StatusBytes` is the block as bytes and as it is read, `StatusMeets` gives number and values for every answer of reading one,
-- `Failure` for what an operation's finish refuses with.
pub mod StatusBytes
pub mod StatusMeets
pub mod Failure
