-- A step's promise by cases: what the header is refused with, the end, the three refusals of an entry, and an entry that is found.
use Prim.Native.Nat.{ℕ, ◌+◌, ◌-◌, ◌≤◌, ◌<◌}
use mathlib.Core.Path.{◌≡◌, refl, ap, sym, subst, ◌∙◌}
use mathlib.Core.List.{List, [], ◌∷◌}
use borrow.Author.Tests.{lt-ltb, le-ltb}
use native.Mathlib.Omega.{arith}
use lib.ListN.{length, take, drop, length-drop}
use lib.Seq.{take_all}
use Rattle.promise.specs.Told.{Told, given, and_then}
use Rattle.promise.specs.Rules.{or_refuse}
use Rattle.promise.specs.Bytes.{field}
use Rattle.protocol_bytes.specs.Signature.{signature_in}
use Rattle.loader_records.specs.declared.answer.RkBootError.{RkBootError}
use Rattle.loader_records.specs.declared.answer.RkBootError.TheVariants.{TooShort, UnknownTag, SizeBelowEntry, EntryPastEnd, DataPastEnd}
use Rattle.loader_records.specs.declared.list.RkBootHeaderEntry.{RkBootHeaderEntry}
use Rattle.loader_records.specs.declared.entry.RkBootEntry.{RkBootEntry}
use Rattle.loader_records.specs.declared.header.RkBootHeader.{RkBootHeader}
use Rattle.loader_records.specs.Records.{read_header, read_entry, entry_of, no_entry, no_header}
use Rattle.loader_records.specs.Refusals.{boot_told, boot_error_values, boot_error_told, no_tag, tag_in, value_in, ReadMeets}
use Rattle.loader_walk.specs.declared.walk.Walk.{Walk}
use Rattle.loader_walk.specs.declared.walk.WalkStep.{WalkStep}
use Rattle.loader_walk.specs.Entries.{Found, lookup, rest_of, start_of, entry_at}
use Rattle.loader_walk.specs.Walking.{Next, next_of, first_of, walk_after, walk_told, entry_in, WalkMeets}
use Rattle.loader_walk.specs.Code.{stopped, found_step, looked_up_told}
use Rattle.std.specs.Prelude.{Result}
use Rattle.std.specs.declared.result.Result.TheVariants.{Ok, Err}
use Rattle.std.specs.declared.option.Option.TheVariants.{None}

-- what is behind the first changes nothing
pub first_alone : (t : Told Found) (ts : List (Told Found)) → first_of (t ∷ ts) ≡ first_of (t ∷ [])
unfolding first_of
first_alone t ts = refl

-- the part of a file from a place to its end
pub rest_whole : (file : List ℕ) (start from : ℕ) → start ≡ from → take (length file - start) (drop start file) ≡ drop from file
rest_whole file start from e =
    let all : length (drop start file) ≤ length file - start = simp length-drop (omega arith) in
    take_all (length file - start) (drop start file) all ∙ ap (λ (k : ℕ). drop k file) e

-- what is read from a place with 57 bytes behind it is the entry there
pub entry_read : (file : List ℕ) (start : ℕ) → start + 57 ≤ length file → value_in no_entry (read_entry (drop start file)) ≡ entry_of (field start 57 file)
unfolding value_in or_refuse
entry_read file start inside =
    let enough : 57 ≤ length (drop start file) = simp length-drop (omega arith) in
    rw (le-ltb (length (drop start file)) 57 enough) refl

module _ (w : Walk) (file : List ℕ) where
  -- the header is refused, and so is the step
  pub step_unread : (error : RkBootError) (h : RkBootHeader) (tag : List ℕ) → ReadMeets (Err error) h tag no_header (read_header file)
      → WalkMeets (stopped w (Err error) tag) w (next_of w file)
  unfolding boot_told next_of and_then walk_told entry_in walk_after signature_in
  step_unread error h tag met =
      let refused-so : read_header file ≡ boot_error_told error tag = sym met.tells in
      subst (λ (t : Told RkBootHeader). WalkMeets (stopped w (Err error) tag) w (and_then t (λ h. first_of (rest_of file h w.list w.entry))))
      met.tells
      (record { tells = refl; says = refl; tag = met.tag ∙ ap tag_in refused-so; next = refl })

  pub step_refused : (r : WalkStep) (answer : Result Unit RkBootError) (error : RkBootError) (h : RkBootHeader) (tag : List ℕ)
      → r ≡ stopped w (Err error) tag → answer ≡ Err error → ReadMeets answer h tag no_header (read_header file)
      → WalkMeets r w (next_of w file)
  step_refused r answer error h tag is e met =
      subst (λ (x : WalkStep). WalkMeets x w (next_of w file)) (sym is)
      (step_unread error h tag (subst (λ (x : Result Unit RkBootError). ReadMeets x h tag no_header (read_header file)) e met))

  -- the header is read, and the rest decides
  pub next_read_lem : (answer : Result Unit RkBootError) (h : RkBootHeader) (tag : List ℕ) → answer ≡ (Ok tt) → ReadMeets answer h tag no_header (read_header file)
      → next_of w file ≡ first_of (rest_of file h w.list w.entry)
  unfolding boot_told next_of and_then
  next_read_lem answer h tag e met =
      let is : read_header file ≡ given h = sym met.tells ∙ ap (λ (x : Result Unit RkBootError). boot_told x h tag) e in
      ap (λ (t : Told RkBootHeader). and_then t (λ h. first_of (rest_of file h w.list w.entry))) is

  -- nothing is left
  pub step_ends : WalkMeets (stopped w (Ok None) no_tag) w (first_of [])
  unfolding first_of walk_told entry_in walk_after signature_in
  step_ends = record { tells = refl; says = refl; tag = refl; next = refl }

-- a look at one entry
module _ (file : List ℕ) (list i : ℕ) (l : RkBootHeaderEntry) where
  pub looked_72 : l.size < 57 → looked_up_told list i (Err (SizeBelowEntry list i)) ≡ lookup file list l i
  unfolding lookup or_refuse boot_error_values
  looked_72 small = rw (lt-ltb l.size 57 small) refl

  pub looked_73 : 57 ≤ l.size → length file < start_of l i + 57 → looked_up_told list i (Err (EntryPastEnd list i)) ≡ lookup file list l i
  unfolding lookup or_refuse boot_error_values
  looked_73 wide past = rw (le-ltb l.size 57 wide, lt-ltb (length file) (start_of l i + 57) past) refl

  module _ (wide : 57 ≤ l.size) (inside : start_of l i + 57 ≤ length file) (e : RkBootEntry) (says : e ≡ entry_at file l i) where
    pub looked_74 : length file < e.data_offset + e.data_size → looked_up_told list i (Err (DataPastEnd list i)) ≡ lookup file list l i
    unfolding lookup or_refuse boot_error_values
    looked_74 past =
        rw (le-ltb l.size 57 wide, le-ltb (length file) (start_of l i + 57) inside, ← says, lt-ltb (length file) (e.data_offset + e.data_size) past) refl

    pub looked_found : e.data_offset + e.data_size ≤ length file → looked_up_told list i (Ok e) ≡ lookup file list l i
    unfolding lookup or_refuse
    looked_found fits =
        rw (le-ltb l.size 57 wide, le-ltb (length file) (start_of l i + 57) inside, ← says, le-ltb (length file) (e.data_offset + e.data_size) fits) refl

-- no error of an entry has a tag to tell
no_tag_told : (error : RkBootError) → no_tag ≡ tag_in {A = Next} (boot_error_told error no_tag)
unfolding boot_error_values signature_in
no_tag_told (TooShort n) = refl
no_tag_told UnknownTag = refl
no_tag_told (SizeBelowEntry list entry) = refl
no_tag_told (EntryPastEnd list entry) = refl
no_tag_told (DataPastEnd list entry) = refl

-- and the step that it is made to
module _ (w : Walk) (list i : ℕ) (t : Told Found) where
  pub step_stops : (error : RkBootError) → looked_up_told list i (Err error) ≡ t → WalkMeets (stopped w (Err error) no_tag) w (first_of (t ∷ []))
  unfolding first_of and_then walk_told entry_in walk_after
  step_stops error e =
      subst (λ (t : Told Found). WalkMeets (stopped w (Err error) no_tag) w (first_of (t ∷ []))) e
      (record { tells = refl; says = refl; tag = no_tag_told error; next = refl })

  pub step_found : (e : RkBootEntry) → looked_up_told list i (Ok e) ≡ t → WalkMeets (found_step list i e) w (first_of (t ∷ []))
  unfolding first_of and_then walk_told entry_in walk_after signature_in
  step_found e is =
      subst (λ (t : Told Found). WalkMeets (found_step list i e) w (first_of (t ∷ []))) is
      (record { tells = refl; says = refl; tag = refl; next = refl })
