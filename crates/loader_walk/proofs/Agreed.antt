-- What `examine` says and what a walk finds are of one list of entries.
use Prim.Native.Nat.{ℕ}
use mathlib.Core.Path.{◌≡◌, ap, sym, ◌∙◌}
use mathlib.Core.List.{List, []}
use native.Mathlib.Omega.{arith}
use Rattle.promise.specs.Told.{Told, given, refused, and_then}
use Rattle.protocol_bytes.proofs.Given.{first_given}
use Rattle.loader_records.specs.declared.answer.RkBootError.{RkBootError}
use Rattle.loader_records.specs.declared.answer.RkBootError.TheVariants.{UnknownTag}
use Rattle.loader_records.proofs.Unique.{error_of, error_of_lem}
use Rattle.protocol_bytes.specs.Signature.{signature_in}
use Rattle.loader_records.specs.Refusals.{tag_in, boot_error_number, boot_error_values, boot_error_told}
use Rattle.loader_walk.specs.declared.walk.Walk.{Walk}
use Rattle.loader_walk.specs.declared.walk.WalkStep.{WalkStep}
use Rattle.loader_walk.specs.declared.whole.EntryCounts.{EntryCounts}
use Rattle.loader_walk.specs.declared.whole.Examined.{Examined}
use Rattle.loader_walk.specs.Entries.{Found, entries_of}
use Rattle.loader_walk.specs.Walking.{new_walk, next_of, walk_told, WalkMeets, counts_of, examined, examine_told, ExamineMeets}
use Rattle.loader_walk.specs.Calls.{Walked, Left}
use Rattle.loader_walk.proofs.Ahead.{given_same}
use Rattle.loader_walk.proofs.AnyCaller.{walked_on, walked_refused}
use Rattle.std.specs.Prelude.{Option, Result}
use Rattle.loader_walk.specs.declared.walk.EntryPlace.{EntryPlace}
use Rattle.std.specs.declared.result.Result.TheVariants.{Ok, Err}

abbrev as_list : Told EntryCounts → Told (List Found)
as_list (given counts) = given []
as_list (refused n values) = refused n values

abbrev refusal_of : Told (List Found) → RkBootError
refusal_of (given fs) = UnknownTag
refusal_of (refused n values) = error_of n values

refused_list : (t : Told (List Found)) (n : ℕ) (values : List ℕ) → and_then t (λ fs. given (counts_of fs)) ≡ refused n values → t ≡ refused n values
unfolding and_then
refused_list (given fs) n values e = let z : ◌≡◌ {A = ℕ} 0 1 = cc in absurd (omega arith)
refused_list (refused m vs) n values e = ap as_list e

module _ (file : List ℕ) (x : Examined) (met : ExamineMeets x (examined file)) where
  -- a file that is whole has its entries, as many in each list as is said
  pub record WholeFile (counts : EntryCounts) : Type 0 where
    pub entries : List Found
    pub is : entries_of file ≡ given entries
    pub counted : counts_of entries ≡ counts

  pub whole_entries : (counts : EntryCounts) → x.answer ≡ Ok counts → WholeFile counts
  unfolding examined examine_told
  whole_entries counts e =
      let told : examined file ≡ given counts = sym met.tells ∙ ap (λ (a : Result EntryCounts RkBootError). examine_told a x.unknown_tag) e in
      let first = first_given (entries_of file) (λ fs. given (counts_of fs)) counts told in
      record { entries = first.0; is = first.1; counted = given_same (counts_of first.0) counts first.2 }

  -- and whoever walks over it is told each of them, and then the end: no step is refused
  pub whole_walked : (counts : EntryCounts) (e : x.answer ≡ Ok counts) (fs : List Found) (w : Walk) → Walked file new_walk fs w
      → Left file (whole_entries counts e).entries fs w
  whole_walked counts e fs w walked = let file-has = whole_entries counts e in walked_on file fs w walked file-has.entries file-has.is

  -- a file that is refused: that is the first refusal of its entries
  pub refused_entries : (error : RkBootError) → x.answer ≡ Err error → entries_of file ≡ boot_error_told error x.unknown_tag
  unfolding examined examine_told
  refused_entries error e =
      refused_list (entries_of file) (boot_error_number error) (boot_error_values error x.unknown_tag)
      (sym met.tells ∙ ap (λ (a : Result EntryCounts RkBootError). examine_told a x.unknown_tag) e)

  -- and whoever walks over it and is refused is refused with the same, the tag beside it included
  pub refused_walked : (error : RkBootError) → x.answer ≡ Err error → (fs : List Found) (w : Walk) → Walked file new_walk fs w
      → (r : WalkStep) (other : RkBootError) → WalkMeets r w (next_of w file) → r.answer ≡ Err other
      → (error ≡ other) × (x.unknown_tag ≡ r.unknown_tag)
  unfolding examine_told walk_told signature_in
  refused_walked error e fs w walked r other step f =
      let same = sym (refused_entries error e) ∙ walked_refused file fs w walked r other step f in (
        sym (error_of_lem error x.unknown_tag) ∙ ap refusal_of same ∙ error_of_lem other r.unknown_tag,
        met.tag
            ∙ ap tag_in (sym met.tells ∙ ap (λ (a : Result EntryCounts RkBootError). examine_told a x.unknown_tag) e)
            ∙ ap tag_in same
            ∙ sym (step.tag ∙ ap tag_in (sym step.tells ∙ ap (λ (a : Result (Option EntryPlace) RkBootError). walk_told a r.entry r.unknown_tag) f)),
      )
