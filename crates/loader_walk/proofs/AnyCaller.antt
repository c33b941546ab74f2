-- Whoever steps over a file from a new walk on is told its entries in their order, and then the end or the first refusal.
use Prim.Native.Nat.{ℕ, ◌+◌}
use mathlib.Core.Path.{◌≡◌, refl, ap, sym, ◌∙◌}
use mathlib.Core.List.{List, [], ◌∷◌, ◌++◌, append-nil}
use mathlib.Core.Logic.{inl, inr}
use native.Mathlib.Omega.{arith}
use Rattle.promise.specs.Told.{Told, given, refused, and_then}
use Rattle.protocol_bytes.proofs.Given.{first_given}
use Rattle.loader_records.specs.declared.answer.RkBootError.{RkBootError}
use Rattle.loader_records.specs.declared.entry.RkBootEntry.{RkBootEntry}
use Rattle.loader_records.specs.declared.header.RkBootHeader.{RkBootHeader}
use Rattle.loader_records.specs.Records.{read_header}
use Rattle.loader_records.specs.Refusals.{boot_error_number, boot_error_values, boot_error_told}
use Rattle.loader_walk.specs.declared.walk.Walk.{Walk}
use Rattle.loader_walk.specs.declared.walk.WalkStep.{WalkStep}
use Rattle.loader_walk.specs.Entries.{Found, rest_of, all, entries_of}
use Rattle.loader_walk.specs.Walking.{Next, entry, no_more, next_of, first_of, walk_after, walk_told, WalkMeets, new_walk}
use Rattle.loader_walk.specs.Calls.{Finds, Walked, next_in, Left, Refuses}
use Rattle.loader_walk.proofs.Ahead.{takes}
use Rattle.loader_walk.proofs.All.{all_given, all_given_lem, all_refused, all_from, given_lists_same, split}
use Rattle.std.specs.Prelude.{Option, Result}
use Rattle.loader_walk.specs.declared.walk.EntryPlace.{EntryPlace}
use Rattle.std.specs.declared.result.Result.TheVariants.{Ok, Err}
use Rattle.std.specs.declared.option.Option.TheVariants.{None}

abbrev kind_of : Told Next → ℕ
kind_of (given (entry f)) = 1
kind_of (given no_more) = 2
kind_of (refused n values) = 3

abbrev as_list : Told Next → Told (List Found)
as_list (given x) = given []
as_list (refused n values) = refused n values

first_given_in : (fs : List Found) → first_of (all_given fs) ≡ next_in fs
unfolding first_of and_then
first_given_in [] = refl
first_given_in (f ∷ fs) = refl

abbrev is_refused : Told (List Found) → ℕ
is_refused (given fs) = 0
is_refused (refused n values) = 1

abbrev as_next : Told (List Found) → Told Next
as_next (given fs) = given no_more
as_next (refused n values) = refused n values

-- what a step that found an entry was told
pub found_told : (file : List ℕ) (w next : Walk) (f : Found) → Finds file w f next → next_of w file ≡ given (entry f)
unfolding walk_told
found_told file w next f finds =
    sym finds.meets.tells
    ∙ ap (λ (a : Result (Option EntryPlace) RkBootError). walk_told a finds.step.entry finds.step.unknown_tag) finds.answers
    ∙ ap (λ (e : RkBootEntry). given (entry (record { at = f.at; says = e }))) finds.says

found_next : (file : List ℕ) (w next : Walk) (f : Found) → Finds file w f next → next ≡ record { list = f.at.list; entry = f.at.entry + 1 }
unfolding walk_after
found_next file w next f finds = sym finds.goes ∙ finds.meets.next ∙ ap (walk_after w) (found_told file w next f finds)

module _ (file : List ℕ) (h : RkBootHeader) (is : read_header file ≡ given h) where
  pub told_by_lem : (w : Walk) → next_of w file ≡ first_of (rest_of file h w.list w.entry)
  unfolding next_of and_then
  told_by_lem w = ap (λ (t : Told RkBootHeader). and_then t (λ h. first_of (rest_of file h w.list w.entry))) is

  entries_by : entries_of file ≡ all (rest_of file h 0 0)
  unfolding entries_of and_then
  entries_by = ap (λ (t : Told RkBootHeader). and_then t (λ h. all (rest_of file h 0 0))) is

  -- what the steps found, and then what is left, is what was left before them
  pub walked_rest : (fs : List Found) (w end : Walk) → Walked file w fs end
      → rest_of file h w.list w.entry ≡ all_given fs ++ rest_of file h end.list end.entry
  walked_rest [] w end e = ap (λ (x : Walk). rest_of file h x.list x.entry) e
  walked_rest (f ∷ fs) w end walked =
      let next = walked.0 in
      let finds = walked.1 in
      takes file h w.list w.entry f (sym (told_by_lem w) ∙ found_told file w next f finds)
      ∙ ap (λ (x : Walk). given f ∷ rest_of file h x.list x.entry) (sym (found_next file w next f finds))
      ∙ ap (λ (l : List (Told Found)). given f ∷ l) (walked_rest fs next end walked.2)

  ends_by : (fs : List Found) (ts : List (Told Found)) → rest_of file h 0 0 ≡ all_given fs ++ ts → first_of ts ≡ given no_more → all (rest_of file h 0 0) ≡ given fs
  unfolding first_of and_then
  ends_by fs [] e told = ap all (e ∙ append-nil (all_given fs)) ∙ all_given_lem fs
  ends_by fs (given f ∷ ts) e told = let z : ◌≡◌ {A = ℕ} 1 2 = ap kind_of told in absurd (omega arith)
  ends_by fs (refused n values ∷ ts) e told = let z : ◌≡◌ {A = ℕ} 3 2 = ap kind_of told in absurd (omega arith)

  refused_by_lem : (fs : List Found) (ts : List (Told Found)) (n : ℕ) (values : List ℕ) → rest_of file h 0 0 ≡ all_given fs ++ ts → first_of ts ≡ refused n values
      → all (rest_of file h 0 0) ≡ refused n values
  unfolding first_of and_then
  refused_by_lem fs [] n values e told = let z : ◌≡◌ {A = ℕ} 2 3 = ap kind_of told in absurd (omega arith)
  refused_by_lem fs (given f ∷ ts) n values e told = let z : ◌≡◌ {A = ℕ} 1 3 = ap kind_of told in absurd (omega arith)
  refused_by_lem fs (refused m vs ∷ ts) n values e told = ap all e ∙ all_refused fs m vs ts ∙ ap as_list told

  pub all_told : (fs : List Found) (w : Walk) → Walked file new_walk fs w → next_of w file ≡ given no_more → entries_of file ≡ given fs
  all_told fs w walked e =
      entries_by ∙ ends_by fs (rest_of file h w.list w.entry) (walked_rest fs new_walk w walked) (sym (told_by_lem w) ∙ e)

  pub refusal_told : (fs : List Found) (w : Walk) (n : ℕ) (values : List ℕ) → Walked file new_walk fs w → next_of w file ≡ refused n values
      → entries_of file ≡ refused n values
  refusal_told fs w n values walked e =
      entries_by ∙ refused_by_lem fs (rest_of file h w.list w.entry) n values (walked_rest fs new_walk w walked) (sym (told_by_lem w) ∙ e)

  pub goes_on : (gs fs : List Found) (w : Walk) → entries_of file ≡ given gs → Walked file new_walk fs w → Left file gs fs w
  goes_on gs fs w e walked =
      let every : rest_of file h 0 0 ≡ all_given gs = all_from (rest_of file h 0 0) gs (sym entries_by ∙ e) in
      let parts = split (all_given fs) (rest_of file h w.list w.entry) gs (sym (walked_rest fs new_walk w walked) ∙ every) in
      record {
        rest = parts.second;
        joined = parts.joined ∙ ap (λ (l : List Found). l ++ parts.second) (sym (given_lists_same fs parts.first parts.left));
        next = told_by_lem w ∙ ap first_of parts.right ∙ first_given_in parts.second;
      }

-- a step that is told anything but a refusal has read the header
pub read_so : (file : List ℕ) (w : Walk) (x : Next) → next_of w file ≡ given x → (h : RkBootHeader) × (read_header file ≡ given h)
unfolding next_of
read_so file w x e = let first = first_given (read_header file) (λ h. first_of (rest_of file h w.list w.entry)) x e in (first.0, first.1)

module _ (file : List ℕ) (fs : List Found) (w : Walk) (walked : Walked file new_walk fs w) where
  -- who comes to the end was told every entry
  pub walked_all : (r : WalkStep) → WalkMeets r w (next_of w file) → r.answer ≡ Ok None → entries_of file ≡ given fs
  unfolding walk_told
  walked_all r met e =
      let told : next_of w file ≡ given no_more = sym met.tells ∙ ap (λ (a : Result (Option EntryPlace) RkBootError). walk_told a r.entry r.unknown_tag) e in
      let read = read_so file w no_more told in
      all_told file read.0 read.1 fs w walked told

  refused_in : (t : Told RkBootHeader) (n : ℕ) (values : List ℕ) → read_header file ≡ t → next_of w file ≡ refused n values → entries_of file ≡ refused n values
  unfolding next_of entries_of and_then
  refused_in (given h) n values is e = refusal_told file h is fs w n values walked e
  refused_in (refused m vs) n values is e =
      ap (λ (t : Told RkBootHeader). and_then t (λ h. all (rest_of file h 0 0))) is
      ∙ ap as_list (sym (ap (λ (t : Told RkBootHeader). and_then t (λ h. first_of (rest_of file h w.list w.entry))) is) ∙ e)

  -- who comes to a refusal came to the first
  pub walked_refused : (r : WalkStep) (error : RkBootError) → WalkMeets r w (next_of w file) → r.answer ≡ Err error
      → entries_of file ≡ boot_error_told error r.unknown_tag
  unfolding walk_told
  walked_refused r error met e =
      refused_in (read_header file) (boot_error_number error) (boot_error_values error r.unknown_tag) refl
      (sym met.tells ∙ ap (λ (a : Result (Option EntryPlace) RkBootError). walk_told a r.entry r.unknown_tag) e)

  -- where the file has these entries, what was found are the first of them, and what comes next is the first of the others, or the end
  pub walked_on : (gs : List Found) → entries_of file ≡ given gs → Left file gs fs w
  unfolding entries_of
  walked_on gs e = let first = first_given (read_header file) (λ h. all (rest_of file h 0 0)) gs e in goes_on file first.0 first.1 gs fs w e walked

  -- where the file is refused, what comes next is that refusal or another entry, and never the end
  next_not_end : (t : Told Next) (n : ℕ) (values : List ℕ) → next_of w file ≡ t → entries_of file ≡ refused n values → Refuses file w n values
  next_not_end (given (entry f)) n values is e = inr (f, is)
  next_not_end (given no_more) n values is e =
      let read = read_so file w no_more is in
      let z : ◌≡◌ {A = ℕ} 0 1 = ap is_refused (sym (all_told file read.0 read.1 fs w walked is) ∙ e) in absurd (omega arith)
  next_not_end (refused m vs) n values is e = inl (is ∙ ap as_next (sym (refused_in (read_header file) m vs refl is) ∙ e))

  pub refused_on : (n : ℕ) (values : List ℕ) → entries_of file ≡ refused n values → Refuses file w n values
  refused_on n values e = next_not_end (next_of w file) n values refl e
