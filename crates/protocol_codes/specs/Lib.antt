-- The enums that have a number: `Numbers` lists the values and their numbers, `Reading` says what a number is read as.
pub mod Numbers
pub mod Reading
