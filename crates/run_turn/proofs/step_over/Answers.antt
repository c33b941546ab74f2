-- The kind says which of the two is lent, and the step does the rest.
use mathlib.Core.Path.{◌≡◌, sym, subst, ◌∙◌}
use mathlib.Core.Bool.{Bool, true, false}
use lib.ListN.{length}
use Rattle.promise.specs.Rules.{pick}
use Rattle.operation.specs.Step.{StepMeets, usb_step}
use Rattle.run_turn.specs.Turn.{is_write}
use Rattle.run_turn.proofs.step_over.Goals as goal

pub returns-then-is_write : goal.returns-then-is_write
returns-then-is_write c =
    let a = c.args in
    let e : is_write a.operation.kind ≡ true = sym c.is_write.ensures ∙ c.if-is_write.true in
    subst (λ (b : Bool). StepMeets c.step.result a.out.now c.step.new.out (usb_step a.operation (length (pick b a.source.now a.room.now)) (length a.out.now))) (sym e)
    c.step.ensures

pub returns-else-is_write : goal.returns-else-is_write
returns-else-is_write c =
    let a = c.args in
    let e : is_write a.operation.kind ≡ false = sym c.is_write.ensures ∙ c.if-is_write.false in
    subst (λ (b : Bool). StepMeets c.step-else-is_write.result a.out.now c.step-else-is_write.new.out (usb_step a.operation (length (pick b a.source.now a.room.now)) (length a.out.now))) (sym e)
    c.step-else-is_write.ensures
