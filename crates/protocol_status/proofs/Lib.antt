-- Laws of the status block: `Reading` by cases of the rule, `Trips` reads back what was written and writes back what was read, `ReadBack` says
-- it of the two functions, `Unique` has that answers are equal, `Wrong` programs that the contracts rule out.
pub mod Reading
pub mod Trips
pub mod ReadBack
pub mod Unique
pub mod Wrong
