-- Nothing is lent to read into, and nothing comes back.
use Prim.Native.Nat.{ℕ}
use mathlib.Core.Path.{subst}
use mathlib.Core.List.{List, []}
use lib.ListN.{length}
use Rattle.run_turn.specs.Turn.{usb_state, lent_to}
use Rattle.run_operation.specs.Run.{usb_run}
use Rattle.run_operation.specs.Answers.{RunMeets}
use Rattle.run_operation.proofs.Checks.{nothing_long}
use Rattle.run_operation.proofs.run_write.Goals as goal

pub returns : goal.returns
returns c =
    let a = c.args in
    let r = c.run_over in
    subst
    (λ (l : List ℕ). RunMeets r.result r.new.flash (lent_to a.operation.kind a.«data».now l) (usb_run (usb_state a.operation a.device a.flash.now (lent_to a.operation.kind a.«data».now [])) (length a.store.now) a.budget))
    (nothing_long r.new.room r.auto.room) r.ensures
