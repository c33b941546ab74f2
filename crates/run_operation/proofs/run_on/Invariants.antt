-- The run from here is the rest of the run from the start (`Going`); the measure is what is left of the budget.
use Prim.Native.Nat.{◌-◌, ◌≤◌}
use mathlib.Core.Path.{◌≡◌}
use lib.ListN.{length}
use Rattle.run_operation.proofs.Going.{held, Going}
use Rattle.run_operation.proofs.run_on.Given as goal

abbrev pub invariant-loop-steps : goal.invariant-loop-steps
invariant-loop-steps l =
    Going (held l.initial.now_operation l.initial.now_device l.initial.flash l.source l.initial.room) l.source l.budget l.flash l.room l.now_operation l.now_device l.beside l.steps
    × (l.steps ≤ l.budget)
    × (length l.flash ≡ length l.initial.flash)
    × (length l.room ≡ length l.initial.room)

abbrev pub decreases-loop-steps : goal.decreases-loop-steps
decreases-loop-steps l = l.budget - l.steps
