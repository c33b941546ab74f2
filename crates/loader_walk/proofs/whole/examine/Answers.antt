-- A walk to its last step, which is the file's answer.
use mathlib.Core.Path.{◌≡◌, ap, sym, subst, ◌∙◌}
use Rattle.loader_walk.specs.declared.whole.EntryCounts.{EntryCounts}
use Rattle.loader_walk.specs.Walking.{examined, ExamineMeets}
use Rattle.loader_walk.proofs.Examining.{onward_new, onward_next, left_less, ends_whole, ends_refused}
use Rattle.loader_walk.proofs.whole.examine.Goals as goal
use Rattle.std.specs.declared.result.Result.TheVariants.{Ok}
use Rattle.std.specs.declared.option.Option.TheVariants.{Some, None}

pub loop-walk-init : goal.loop-walk-init
loop-walk-init c = onward_new c.args.file.now c.new-walk.result c.new-walk.ensures

pub loop-walk-smaller : goal.loop-walk-smaller
loop-walk-smaller c =
    let found = c.in-Ok-Some in
    let entry : found.field-0 ≡ Some found.field-0-0 = rw found.is at found.field-0-is in
    left_less c.args.file.now c.loop-walk.walk c.step-step.result found.field-0-0 (found.is ∙ ap Ok entry) c.step-step.ensures

pub loop-walk-preserved : goal.loop-walk-preserved
loop-walk-preserved c =
    let at = c.loop-walk in
    let found = c.in-Ok-Some in
    let entry : found.field-0 ≡ Some found.field-0-0 = rw found.is at found.field-0-is in
    onward_next c.args.file.now at.walk c.step-step.result found.field-0-0 (found.is ∙ ap Ok entry) c.step-step.ensures at.invariant

pub returns-in-Ok-None : goal.returns-in-Ok-None
returns-in-Ok-None c =
    let file = c.args.file.now in
    let at = c.loop-walk in
    let step = c.step-step in
    let last = c.in-Ok-None in
    let end : last.field-0 ≡ None = rw last.is at last.field-0-is in
    subst (λ (counts : EntryCounts). ExamineMeets (record { answer = Ok counts; unknown_tag = step.result.unknown_tag }) (examined file))
    (sym c.counts_of.ensures) (ends_whole file at.walk step.result at.invariant step.ensures (last.is ∙ ap Ok end))

pub returns-in-Err : goal.returns-in-Err
returns-in-Err c =
    let at = c.loop-walk in
    let step = c.step-step in
    ends_refused c.args.file.now at.walk step.result at.invariant step.ensures c.in-Err.error c.in-Err.is
