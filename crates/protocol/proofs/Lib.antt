-- Laws of the command block: `Reading` by cases of the rule, `Trips` reads back what was written and writes back what was read, `ReadBack` says
-- it of the two functions and what reading looks at, `Unique` has that answers are equal, `Examples` example P1 of the rules, `Wrong` programs that
-- the contracts rule out.
pub mod Reading
pub mod Trips
pub mod ReadBack
pub mod Unique
pub mod Examples
pub mod Wrong
