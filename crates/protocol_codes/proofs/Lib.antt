-- Laws of numbers and the values they stand for: `Reading` over any enum, `Back` for each of ours; `Wrong` has programs that the contracts rule out.
pub mod Reading
pub mod Back
pub mod Wrong
