-- The run from here is the rest of the run from the start (`Going`); the measure is what is left of the budget.
use Prim.Native.Nat.{◌<◌, ◌+◌}
use mathlib.Core.Path.{◌≡◌, refl, sym, subst, ◌∙◌}
use native.Mathlib.Omega.{arith}
use Rattle.std.specs.Prelude.{Result}
use Rattle.operation_finish.specs.declared.UsbReply.{UsbReply}
use Rattle.promise.specs.Run.{runs}
use Rattle.run_turn.specs.Turn.{lent_to, usb_turn}
use Rattle.run_operation.specs.declared.RunError.{RunError}
use Rattle.run_operation.specs.Answers.{RunMeets}
use Rattle.run_operation.proofs.Going.{held, made_of, going_begins, going_spent, going_on, going_ends}
use Rattle.run_operation.proofs.run_on.Goals as goal

pub loop-steps-init : goal.loop-steps-init
loop-steps-init c =
    let a = c.args in
    (going_begins a.operation a.device a.flash.now a.source.now a.room.now a.budget c.blank-beside.result c.blank-beside.ensures, omega arith, refl, refl)

pub loop-steps-preserved : goal.loop-steps-preserved
loop-steps-preserved c =
    let t = c.take_turn-turned in
    let l = c.loop-steps in
    let a = c.args in
    let left : l.steps ≡ a.budget → ⊥ = c.if-steps-budget.false in
    let h : l.steps < a.budget = omega (arith, l.invariant.1) in
    let start = held a.operation a.device a.flash.now a.source.now a.room.now in (
      going_on start a.source.now a.budget l.flash l.room l.now_operation l.now_device l.beside l.steps l.invariant.0 h
          t.result t.new.flash t.new.room t.ensures.turns c.in_default.is,
      omega arith,
      t.auto.flash ∙ l.invariant.2,
      t.auto.room ∙ l.invariant.3,
    )

pub returns-then-steps-budget : goal.returns-then-steps-budget
returns-then-steps-budget c =
    let l = c.loop-steps in
    let a = c.args in
    going_spent (held a.operation a.device a.flash.now a.source.now a.room.now) a.source.now a.budget l.flash l.room
    l.now_operation l.now_device l.beside l.steps l.invariant.0 c.if-steps-budget.true

pub returns-in-Break : goal.returns-in-Break
returns-in-Break c =
    let t = c.take_turn-turned in
    let l = c.loop-steps in
    let a = c.args in
    let left : l.steps ≡ a.budget → ⊥ = c.if-steps-budget.false in
    let h : l.steps < a.budget = omega (arith, l.invariant.1) in
    let start = held a.operation a.device a.flash.now a.source.now a.room.now in
    subst
    (λ (x : Result UsbReply RunError). RunMeets (made_of x t.result.beside t.result.operation t.result.device (l.steps + 1)) t.new.flash (lent_to a.operation.kind a.source.now t.new.room) (runs usb_turn a.budget start))
    (sym c.ended-answer.ensures)
    (going_ends start a.source.now a.budget l.flash l.room l.now_operation l.now_device l.beside l.steps l.invariant.0 h
    t.result t.new.flash t.new.room t.ensures.turns c.in-Break.stop c.in-Break.is)
