-- A write is lent the data to write from and nothing to read into, any other operation the other way round.
use mathlib.Core.Path.{◌≡◌, sym, subst, ◌∙◌}
use mathlib.Core.Bool.{Bool, true, false}
use mathlib.Core.List.{[]}
use lib.ListN.{length}
use Rattle.promise.specs.Rules.{pick}
use Rattle.run_turn.specs.Turn.{usb_state, is_write}
use Rattle.run_operation.specs.Run.{usb_run}
use Rattle.run_operation.specs.Answers.{RunMeets}
use Rattle.run_operation.proofs.run.Goals as goal

pub returns-then-is_write : goal.returns-then-is_write
returns-then-is_write c =
    let a = c.args in
    let r = c.run_over in
    let e : is_write a.operation.kind ≡ true = sym c.is_write.ensures ∙ c.if-is_write.true in
    subst
    (λ (w : Bool). RunMeets r.result r.new.flash (pick w a.«data».now r.new.room) (usb_run (usb_state a.operation a.device a.flash.now (pick w a.«data».now [])) (length a.store.now) a.budget))
    e r.ensures

pub returns : goal.returns
returns c =
    let a = c.args in
    let r = c.run_over-2 in
    let e : is_write a.operation.kind ≡ false = sym c.is_write.ensures ∙ c.if-is_write.false in
    subst
    (λ (w : Bool). RunMeets r.result r.new.flash (pick w [] r.new.room) (usb_run (usb_state a.operation a.device a.flash.now (pick w [] a.«data».now)) (length a.store.now) a.budget))
    e r.ensures
