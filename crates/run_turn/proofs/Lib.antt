-- `Fine` has what a step may ask for, `Meets` when a turn meets its definition, `Kept` what no turn changes, `Unique` that answers allowed by one
-- contract are equal, `Wrong` programs that the contracts rule out.
pub mod Fine
pub mod Meets
pub mod Kept
pub mod Unique
pub mod Wrong
