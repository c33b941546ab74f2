-- The records of a loader file. `Records` has each record as its bytes say it, and reading one with its refusals in their order; `Refusals` gives
-- number and values for every answer, and the shape of a reader's promise; `Code` is what the private functions give.
pub mod Records
pub mod Refusals
pub mod Code
