-- Programs that the contracts rule out.
pub mod Wrong
