-- `Wrong` has programs that the contracts here rule out.
pub mod Wrong
