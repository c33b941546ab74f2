-- Answers and ranges: `Telling` has that the answers that the code makes tell what they should, `Unique` that answers allowed by one contract are
-- equal, `Fitting` what a range that was taken or refused tells, `Wrong` programs that the contracts rule out.
-- What a stand-in says of itself: `Five` takes an array of five apart, `ConfigExamples` has example P13 of the rules, `WrongConfig` programs that the
-- contracts rule out.
pub mod Telling
pub mod Unique
pub mod Fitting
pub mod Wrong
pub mod Five
pub mod ConfigExamples
pub mod WrongConfig
