-- The command block. `Commands` has what each of our operations asks, `CommandBytes` the block as bytes and as it is read, `CommandMeets` number and
-- values for every answer of reading one.
pub mod Commands
pub mod CommandBytes
pub mod CommandMeets
