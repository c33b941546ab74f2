-- The contract of the function that it calls is its own.
use Rattle.ffi.proofs.otterarch_upload_parts.Goals as goal

pub returns : goal.returns
returns c = c.parts.ensures
