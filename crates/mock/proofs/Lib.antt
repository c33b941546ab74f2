-- `Creating` has what a creation tells, `Appended` an append's answer as the device gives it, `Keeps` what a bulk call leaves of the record,
-- `Controls` the areas by their numbers, `Reached` what a record is that calls from a fresh start made, `Nor` what callers of a head with NOR flash
-- see, `Unique` that answers allowed by one contract are equal, `Wrong` programs that the contracts rule out.
pub mod Creating
pub mod Appended
pub mod Keeps
pub mod Controls
pub mod Reached
pub mod Nor
pub mod Unique
pub mod Wrong
