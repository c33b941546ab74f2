-- The sum is the definition's, and stays below 2 ^ 56.
use mathlib.Core.Path.{ap}
use Prim.Native.Nat.{ℕ, ◌+◌, ◌*◌}
use Rattle.ffi.specs.Command.{command_number}
use Rattle.ffi.proofs.commands.number_of.Goals as goal

pub returns : goal.returns
unfolding command_number
returns c = let a = c.args.block in ap (λ (n : ℕ). n + a.cd_address * 256 + a.cd_length * 1099511627776) c.from.ensures
