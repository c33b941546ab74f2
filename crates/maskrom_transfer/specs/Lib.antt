-- One transfer of an upload. `Moves` is one step of an image of which no more will come, `Sending` that step with its refusal and its number, `Code`
-- what a private step of the code leaves.
pub mod Moves
pub mod Sending
pub mod Code
