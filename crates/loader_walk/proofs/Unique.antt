-- Answers that one contract allows are equal.
use Prim.Native.Nat.{ℕ}
use mathlib.Core.Path.{◌≡◌, refl, ap, sym, ◌∙◌}
use mathlib.Core.List.{List}
use Rattle.promise.specs.Told.{Told, given, refused, number}
use Rattle.loader_records.specs.declared.entry.RkBootEntry.{RkBootEntry}
use Rattle.loader_records.specs.Refusals.{boot_error_number}
use Rattle.rule_number.specs.Number.{number_of}
use Rattle.loader_records.proofs.Unique.{error_of, error_of_lem}
use Rattle.loader_walk.specs.declared.walk.Walk.{Walk}
use Rattle.loader_walk.specs.declared.walk.WalkStep.{WalkStep}
use Rattle.loader_walk.specs.declared.whole.EntryCounts.{EntryCounts}
use Rattle.loader_walk.specs.declared.whole.Examined.{Examined}
use Rattle.loader_walk.specs.Walking.{Next, entry, no_more, walk_told, walk_number, WalkMeets, examine_told, examine_number, ExamineMeets}
use Rattle.std.specs.Prelude.{Option, Result}
use Rattle.loader_walk.specs.declared.walk.EntryPlace.{EntryPlace}
use Rattle.loader_records.specs.declared.answer.RkBootError.{RkBootError}
use Rattle.std.specs.declared.result.Result.TheVariants.{Ok, Err}
use Rattle.std.specs.declared.option.Option.TheVariants.{Some, None}

step_of : Told Next → Result (Option EntryPlace) RkBootError
step_of (given (entry f)) = Ok (Some f.at)
step_of (given no_more) = Ok None
step_of (refused n values) = Err (error_of n values)

step_of_lem : (a : Result (Option EntryPlace) RkBootError) (says : RkBootEntry) (tag : List ℕ) → step_of (walk_told a says tag) ≡ a
unfolding step_of walk_told
step_of_lem (Ok (Some at)) says tag = refl
step_of_lem (Ok None) says tag = refl
step_of_lem (Err e) says tag = ap Err (error_of_lem e tag)

pub step_unique : (w : Walk) (told : Told Next) (r s : WalkStep) → WalkMeets r w told → WalkMeets s w told
    → (r.answer ≡ s.answer) × (r.entry ≡ s.entry) × (r.unknown_tag ≡ s.unknown_tag) × (r.walk ≡ s.walk)
step_unique w told r s p q = (
  sym (step_of_lem r.answer r.entry r.unknown_tag)
      ∙ ap step_of (p.tells ∙ sym q.tells)
      ∙ step_of_lem s.answer s.entry s.unknown_tag,
  p.says ∙ sym q.says,
  p.tag ∙ sym q.tag,
  p.next ∙ sym q.next,
)

whole_of : Told EntryCounts → Result EntryCounts RkBootError
whole_of (given counts) = Ok counts
whole_of (refused n values) = Err (error_of n values)

whole_of_lem : (a : Result EntryCounts RkBootError) (tag : List ℕ) → whole_of (examine_told a tag) ≡ a
unfolding whole_of examine_told
whole_of_lem (Ok counts) tag = refl
whole_of_lem (Err e) tag = ap Err (error_of_lem e tag)

pub examine_unique : (told : Told EntryCounts) (r s : Examined) → ExamineMeets r told → ExamineMeets s told
    → (r.answer ≡ s.answer) × (r.unknown_tag ≡ s.unknown_tag)
examine_unique told r s p q =
    (sym (whole_of_lem r.answer r.unknown_tag) ∙ ap whole_of (p.tells ∙ sym q.tells) ∙ whole_of_lem s.answer s.unknown_tag, p.tag ∙ sym q.tag)

-- the number of an answer is that of what it tells, whatever stands beside it
pub walk_number_lem : (a : Result (Option EntryPlace) RkBootError) (says : RkBootEntry) (tag : List ℕ) → number (walk_told a says tag) ≡ walk_number a
unfolding walk_told number
walk_number_lem (Ok (Some at)) says tag = refl
walk_number_lem (Ok None) says tag = refl
walk_number_lem (Err e) says tag = refl

pub examine_number_lem : (a : Result EntryCounts RkBootError) (tag : List ℕ) → number (examine_told a tag) ≡ examine_number a
unfolding examine_told number
examine_number_lem (Ok counts) tag = refl
examine_number_lem (Err e) tag = refl

-- what `number` answers for a step's answer, and for an examination's, is the number of what it tells
pub walk_numbered : (a : Result (Option EntryPlace) RkBootError) → walk_number a ≡ number_of boot_error_number a
unfolding walk_told number
walk_numbered (Ok (Some at)) = refl
walk_numbered (Ok None) = refl
walk_numbered (Err e) = refl

pub examine_numbered : (a : Result EntryCounts RkBootError) → examine_number a ≡ number_of boot_error_number a
unfolding examine_told number
examine_numbered (Ok counts) = refl
examine_numbered (Err e) = refl
