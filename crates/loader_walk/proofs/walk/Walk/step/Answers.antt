-- The header's refusals, the end, and the entry that stands where the search stops.
use Prim.Native.Nat.{suc, ◌<◌}
use mathlib.Core.Path.{◌≡◌, ap, sym, subst, ◌∙◌}
use mathlib.Core.List.{[], ◌∷◌}
use Rattle.loader_records.specs.declared.list.RkBootHeaderEntry.{RkBootHeaderEntry}
use Rattle.loader_walk.specs.declared.walk.WalkStep.{WalkStep}
use Rattle.loader_walk.specs.Entries.{lookup, rest_of, list_at}
use Rattle.loader_walk.specs.Walking.{first_of, next_of, WalkMeets}
use Rattle.loader_walk.proofs.Cases.{step_refused, next_read_lem, step_ends, step_stops, step_found, first_alone}
use Rattle.loader_walk.proofs.Rests.{rest_here}
use Rattle.loader_walk.proofs.walk.Walk.step.Goals as goal
use Rattle.loader_walk.proofs.walk.Walk.step.Goals.{In-Some}

-- what is to come is told by the entry that stands at the place
told_there : (c : In-Some) → let at = c.in-Some.at in
    next_of c.args.self c.args.file.now ≡ first_of (lookup c.args.file.now at.list (list_at c.from_bytes-read.result.header at.list) at.entry ∷ [])
told_there c =
    let a = c.args in
    let file = a.file.now in
    let read = c.from_bytes-read in
    let header = read.result.header in
    let at = c.in-Some.at in
    let seeks = c.in-Some.ensures in
    next_read_lem a.self file read.result.answer header read.result.unknown_tag c.in_default.is read.ensures
    ∙ ap first_of (sym (seeks.same file) ∙ rest_here file header at.list at.entry seeks.list seeks.there)
    ∙ first_alone (lookup file at.list (list_at header at.list) at.entry) (rest_of file header at.list (suc at.entry))

pub returns-in-Err : goal.returns-in-Err
returns-in-Err c =
    let a = c.args in
    let read = c.from_bytes-read in
    step_refused a.self a.file.now c.stopped.result read.result.answer c.in-Err.error read.result.header read.result.unknown_tag
    c.stopped.ensures c.in-Err.is read.ensures

pub returns-in_default-seek : goal.returns-in_default-seek
returns-in_default-seek c =
    let a = c.args in
    let file = a.file.now in
    let read = c.from_bytes-read in
    let told : next_of a.self file ≡ first_of [] =
    next_read_lem a.self file read.result.answer read.result.header read.result.unknown_tag c.in_default.is read.ensures
    ∙ ap first_of (c.in_default-seek.ensures file) in
    subst (WalkMeets c.stopped-in_default-seek.result a.self) (sym told)
    (subst (λ (r : WalkStep). WalkMeets r a.self (first_of [])) (sym c.stopped-in_default-seek.ensures) (step_ends a.self file))

pub look_up-requires : goal.look_up-requires
look_up-requires c =
    let seeks = c.in-Some.ensures in
    subst (λ (l : RkBootHeaderEntry). c.in-Some.at.entry < l.count) (sym c.list_at.ensures) seeks.there

pub returns-in-Ok : goal.returns-in-Ok
returns-in-Ok c =
    let a = c.args in
    let at = c.in-Some.at in
    let there = (goal.at.returns-in-Ok c).In-Some in
    let found = ap (λ (l : RkBootHeaderEntry). lookup a.file.now at.list l at.entry) c.list_at.ensures in
    subst (WalkMeets c.found.result a.self) (sym (told_there there))
    (subst (λ (r : WalkStep). WalkMeets r a.self (first_of (lookup a.file.now at.list (list_at c.from_bytes-read.result.header at.list) at.entry ∷ []))) (sym c.found.ensures)
    (step_found a.self at.list at.entry (lookup a.file.now at.list (list_at c.from_bytes-read.result.header at.list) at.entry) c.in-Ok.entry (c.in-Ok.ensures ∙ found)))

pub returns-in-Err-look_up : goal.returns-in-Err-look_up
returns-in-Err-look_up c =
    let a = c.args in
    let at = c.in-Some.at in
    let there = (goal.at.returns-in-Err-look_up c).In-Some in
    let found = ap (λ (l : RkBootHeaderEntry). lookup a.file.now at.list l at.entry) c.list_at.ensures in
    subst (WalkMeets c.stopped-in-Err-look_up.result a.self) (sym (told_there there))
    (subst (λ (r : WalkStep). WalkMeets r a.self (first_of (lookup a.file.now at.list (list_at c.from_bytes-read.result.header at.list) at.entry ∷ []))) (sym c.stopped-in-Err-look_up.ensures)
    (step_stops a.self at.list at.entry (lookup a.file.now at.list (list_at c.from_bytes-read.result.header at.list) at.entry) c.in-Err-look_up.error (c.in-Err-look_up.ensures ∙ found)))
