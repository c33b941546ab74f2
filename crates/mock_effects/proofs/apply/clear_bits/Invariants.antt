-- What is passed is programmed and what is left is as it was.
use mathlib.Core.Path.{◌≡◌}
use Rattle.mock_effects.proofs.Programming.{so_far}
use Rattle.mock_effects.proofs.apply.clear_bits.Given as goal

abbrev pub invariant-loop-i : goal.invariant-loop-i
invariant-loop-i l = l.part ≡ so_far l.i l.asked l.initial.part
