-- The number of an answer that is a value or a refusal.
pub mod Number
