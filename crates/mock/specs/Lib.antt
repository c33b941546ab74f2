-- The stand-in device: `Device` has every call over its whole record, `Made` the records that calls from a fresh start can make, `Nor` what callers
-- of a head with NOR flash see. `Code` describes private functions of the code.
pub mod Device
pub mod Made
pub mod Nor
pub mod Code
