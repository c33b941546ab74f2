-- The contract of the function that it calls is its own.
use Rattle.ffi.proofs.otterarch_read_sectors.Goals as goal

pub returns : goal.returns
returns c = c.read_sectors.ensures
