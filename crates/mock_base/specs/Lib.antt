-- What the stand-in device answers and says. `Told` gives number and values for every answer, `Flash` says which lengths and ranges of a lent flash
-- are refused, `Config` what a stand-in says of itself.
pub mod Told
pub mod Flash
pub mod Config
