-- The contract of the function that it calls is its own.
use Rattle.ffi.proofs.otterarch_command_write.Goals as goal

pub returns : goal.returns
returns c = c.write_command.ensures
