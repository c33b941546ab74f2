-- A file examined: a walk from the first entry on finds them all, or comes to the first refusal.
use Prim.Native.Nat.{ℕ, suc, ◌+◌, ◌<◌}
use mathlib.Core.Path.{◌≡◌, refl, ap, sym, subst, ◌∙◌}
use mathlib.Core.List.{List, [], ◌∷◌, ◌++◌, append-nil}
use native.Mathlib.Omega.{arith}
use lib.ListN.{length}
use Rattle.promise.specs.Told.{Told, given, refused, and_then}
use Rattle.protocol_bytes.specs.Signature.{signature_in}
use Rattle.loader_records.specs.declared.answer.RkBootError.{RkBootError}
use Rattle.loader_records.specs.declared.header.RkBootHeader.{RkBootHeader}
use Rattle.loader_records.specs.Records.{read_header, no_header}
use Rattle.loader_records.specs.Refusals.{value_in, tag_in}
use Rattle.loader_walk.specs.declared.walk.Walk.{Walk}
use Rattle.loader_walk.specs.declared.walk.EntryPlace.{EntryPlace}
use Rattle.loader_walk.specs.declared.walk.WalkStep.{WalkStep}
use Rattle.loader_walk.specs.declared.whole.EntryCounts.{EntryCounts}
use Rattle.loader_walk.specs.Entries.{Found, rest_of, all, entries_of}
use Rattle.loader_walk.specs.Walking.{Next, entry, no_more, next_of, first_of, walk_after, walk_told, WalkMeets, new_walk, counts_of, examined, examine_told, ExamineMeets}
use Rattle.loader_walk.specs.Code.{header_counts}
use Rattle.loader_walk.proofs.Ahead.{takes}
use Rattle.loader_walk.proofs.All.{all_given, given_more, all_given_lem, all_refused}
use Rattle.loader_walk.proofs.Counts.{counts_right}
use Rattle.std.specs.Prelude.{Option, Result}
use Rattle.std.specs.declared.result.Result.TheVariants.{Ok, Err}
use Rattle.std.specs.declared.option.Option.TheVariants.{Some, None}

-- what a walk has found so far
pub record SoFar (file : List ℕ) (h : RkBootHeader) (w : Walk) : Type 0 where
  pub known : List Found
  pub whole : rest_of file h 0 0 ≡ all_given known ++ rest_of file h w.list w.entry

-- wherever the header can be read
abbrev pub Onward : List ℕ → Walk → Type 0
Onward file w = (h : RkBootHeader) → read_header file ≡ given h → SoFar file h w

pub onward_new : (file : List ℕ) (w : Walk) → w ≡ new_walk → Onward file w
onward_new file w e h is = record { known = []; whole = ap (λ (x : Walk). rest_of file h x.list x.entry) (sym e) }

-- how much is left
abbrev left_by : List ℕ → Told RkBootHeader → Walk → ℕ
left_by file (given h) w = length (rest_of file h w.list w.entry)
left_by file (refused n vs) w = 0

abbrev pub left_in : List ℕ → Walk → ℕ
left_in file w = left_by file (read_header file) w

module _ (file : List ℕ) (w : Walk) where
  -- a step that found an entry
  told_entry : (r : WalkStep) (at : EntryPlace) → r.answer ≡ Ok (Some at) → WalkMeets r w (next_of w file)
      → next_of w file ≡ given (entry (record { at = at; says = r.entry }))
  unfolding walk_told
  told_entry r at e met = sym met.tells ∙ ap (λ (a : Result (Option EntryPlace) RkBootError). walk_told a r.entry r.unknown_tag) e

  then-walk : (r : WalkStep) (at : EntryPlace) → r.answer ≡ Ok (Some at) → WalkMeets r w (next_of w file)
      → r.walk ≡ record { list = at.list; entry = at.entry + 1 }
  unfolding walk_after
  then-walk r at e met = met.next ∙ ap (walk_after w) (told_entry r at e met)

  pub onward_next : (r : WalkStep) (at : EntryPlace) → r.answer ≡ Ok (Some at) → WalkMeets r w (next_of w file) → Onward file w → Onward file r.walk
  unfolding next_of and_then
  onward_next r at e met before h is =
      let f : Found = record { at = at; says = r.entry } in
      let so_far = before h is in
      let here : first_of (rest_of file h w.list w.entry) ≡ given (entry f) =
      sym (ap (λ (t : Told RkBootHeader). and_then t (λ h. first_of (rest_of file h w.list w.entry))) is) ∙ told_entry r at e met in
      record {
        known = so_far.known ++ (f ∷ []);
        whole =
            so_far.whole
            ∙ ap (λ (l : List (Told Found)). all_given so_far.known ++ l) (takes file h w.list w.entry f here)
            ∙ given_more so_far.known f (rest_of file h at.list (at.entry + 1))
            ∙ ap (λ (x : Walk). all_given (so_far.known ++ (f ∷ [])) ++ rest_of file h x.list x.entry) (sym (then-walk r at e met));
      }

  left_by_lem : (t : Told RkBootHeader) (f : Found) → and_then t (λ h. first_of (rest_of file h w.list w.entry)) ≡ given (entry f)
      → left_by file t (record { list = f.at.list; entry = f.at.entry + 1 }) < left_by file t w
  unfolding and_then
  left_by_lem (given h) f e =
      let more : length (rest_of file h w.list w.entry) ≡ suc (length (rest_of file h f.at.list (f.at.entry + 1))) =
      ap length (takes file h w.list w.entry f e) in
      omega arith
  left_by_lem (refused n vs) f e = let z : ◌≡◌ {A = ℕ} 0 1 = cc in absurd (omega arith)

  pub left_less : (r : WalkStep) (at : EntryPlace) → r.answer ≡ Ok (Some at) → WalkMeets r w (next_of w file) → left_in file r.walk < left_in file w
  unfolding next_of
  left_less r at e met =
      subst (λ (x : Walk). left_in file x < left_in file w) (sym (then-walk r at e met))
      (left_by_lem (read_header file) (record { at = at; says = r.entry }) (told_entry r at e met))

-- what comes of the whole file where a walk comes to this
abbrev Outcome : Told Next → EntryCounts → Told EntryCounts → Type 0
Outcome (given (entry f)) counts result = Unit
Outcome (given no_more) counts result = result ≡ given counts
Outcome (refused n vs) counts result = result ≡ refused n vs

outcome_rest : (file : List ℕ) (h : RkBootHeader) (known : List Found) (ts : List (Told Found)) → rest_of file h 0 0 ≡ all_given known ++ ts
    → Outcome (first_of ts) (header_counts h) (and_then (all (rest_of file h 0 0)) (λ fs. given (counts_of fs)))
unfolding first_of and_then
outcome_rest file h known [] e =
    let every : rest_of file h 0 0 ≡ all_given known = e ∙ append-nil (all_given known) in
    ap (λ (l : List (Told Found)). and_then (all l) (λ fs. given (counts_of fs))) every
    ∙ ap (λ (t : Told (List Found)). and_then t (λ fs. given (counts_of fs))) (all_given_lem known)
    ∙ ap given (counts_right file h known every)
outcome_rest file h known (given f ∷ ts) e = tt
outcome_rest file h known (refused n vs ∷ ts) e =
    ap (λ (l : List (Told Found)). and_then (all l) (λ fs. given (counts_of fs))) e
    ∙ ap (λ (t : Told (List Found)). and_then t (λ fs. given (counts_of fs))) (all_refused known n vs ts)

outcome_by : (file : List ℕ) (w : Walk) (t : Told RkBootHeader) → ((h : RkBootHeader) → t ≡ given h → SoFar file h w)
    → Outcome (and_then t (λ h. first_of (rest_of file h w.list w.entry))) (header_counts (value_in no_header t))
    (and_then (and_then t (λ h. all (rest_of file h 0 0))) (λ fs. given (counts_of fs)))
unfolding and_then value_in
outcome_by file w (given h) onward = let so_far = onward h refl in outcome_rest file h so_far.known (rest_of file h w.list w.entry) so_far.whole
outcome_by file w (refused n vs) onward = refl

outcome : (file : List ℕ) (w : Walk) → Onward file w → Outcome (next_of w file) (header_counts (value_in no_header (read_header file))) (examined file)
unfolding next_of examined entries_of
outcome file w onward = outcome_by file w (read_header file) onward

-- the last step's answer is the whole file's
told_so : (r : WalkStep) (a : Result (Option EntryPlace) RkBootError) (told : Told Next) (w : Walk) → WalkMeets r w told → r.answer ≡ a → walk_told a r.entry r.unknown_tag ≡ told
told_so r a told w met e = sym (ap (λ (x : Result (Option EntryPlace) RkBootError). walk_told x r.entry r.unknown_tag) e) ∙ met.tells

module _ (file : List ℕ) (w : Walk) (r : WalkStep) (onward : Onward file w) (met : WalkMeets r w (next_of w file)) where
  outcome_so : (a : Result (Option EntryPlace) RkBootError) → r.answer ≡ a → Outcome (walk_told a r.entry r.unknown_tag) (header_counts (value_in no_header (read_header file))) (examined file)
  outcome_so a e =
      subst (λ (t : Told Next). Outcome t (header_counts (value_in no_header (read_header file))) (examined file)) (sym (told_so r a (next_of w file) w met e))
      (outcome file w onward)

  tag_so : (a : Result (Option EntryPlace) RkBootError) → r.answer ≡ a → r.unknown_tag ≡ tag_in (walk_told a r.entry r.unknown_tag)
  tag_so a e = met.tag ∙ ap tag_in (sym (told_so r a (next_of w file) w met e))

  pub ends_whole : r.answer ≡ Ok None
      → ExamineMeets (record { answer = Ok (header_counts (value_in no_header (read_header file))); unknown_tag = r.unknown_tag }) (examined file)
  unfolding walk_told examine_told signature_in
  ends_whole e = let out = outcome_so (Ok None) e in record { tells = sym out; tag = tag_so (Ok None) e ∙ sym (ap tag_in out) }

  pub ends_refused : (error : RkBootError) → r.answer ≡ Err error
      → ExamineMeets (record { answer = Err error; unknown_tag = r.unknown_tag }) (examined file)
  unfolding walk_told examine_told signature_in
  ends_refused error e =
      let out = outcome_so (Err error) e in record { tells = sym out; tag = tag_so (Err error) e ∙ sym (ap tag_in out) }
