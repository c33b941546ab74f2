-- `Sized` has that a step asks for as many bytes as it sends, `Quiet` that a control call's refusal carries no signature, `Cases` a law for each
-- thing that a turn comes to, `Checks` what the checks before the first step come to, `Unique` that answers allowed by one contract are equal,
-- `Numbers` that an answer's number is that of what it tells, `Wrong` programs that the contracts rule out.
pub mod Sized
pub mod Quiet
pub mod Cases
pub mod Checks
pub mod Unique
pub mod Numbers
pub mod Wrong
