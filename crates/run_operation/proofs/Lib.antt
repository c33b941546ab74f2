-- `Going` has what the loop over turns keeps, `Checks` what the checks before it come to, `Unique` that answers allowed by one contract are equal,
-- `Wrong` programs that the contracts rule out.
pub mod Going
pub mod Checks
pub mod Unique
pub mod Wrong
