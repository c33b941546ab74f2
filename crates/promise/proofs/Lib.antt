-- `Order` has byte order read back, `Outcome` and `First` laws of an order of refusals, `Over` and `Copied` laws of a part put over a buffer, `Loop`
-- what a loop over turns keeps, `Resumed` what holds of every run.
pub mod Order
pub mod Outcome
pub mod First
pub mod Over
pub mod Copied
pub mod Loop
pub mod Resumed
