-- A walk over a file's entries, and its examination.
use Rattle.std.specs.Prelude.{ℕ, ◌+◌, ◌≡◌, List, [], ◌∷◌, eqb, Option, Result}
use Rattle.promise.specs.Told.{Told, given, refused, number, and_then}
use Rattle.promise.specs.Rules.{pick}
use Rattle.loader_records.specs.declared.entry.RkBootEntry.{RkBootEntry}
use Rattle.loader_records.specs.Records.{read_header, no_entry}
use Rattle.loader_records.specs.Refusals.{boot_error_told, no_tag, tag_in}
use Rattle.loader_walk.specs.declared.walk.Walk.{Walk}
use Rattle.loader_walk.specs.declared.walk.WalkStep.{WalkStep}
use Rattle.loader_walk.specs.declared.whole.EntryCounts.{EntryCounts}
use Rattle.loader_walk.specs.declared.whole.Examined.{Examined}
use Rattle.loader_walk.specs.Entries.{Found, rest_of, entries_of}
use Rattle.loader_walk.specs.declared.walk.EntryPlace.{EntryPlace}
use Rattle.loader_records.specs.declared.answer.RkBootError.{RkBootError}
use Rattle.std.specs.declared.result.Result.TheVariants.{Ok, Err}
use Rattle.std.specs.declared.option.Option.TheVariants.{Some, None}

-- what a step finds: an entry, or that there is no more
pub data Next : Type 0 where
  entry : Found → Next
  no_more : Next

-- the first of what is left
unfoldable pub first_of : List (Told Found) → Told Next
first_of [] = given no_more
first_of (t ∷ ts) = and_then t (λ f. given (entry f))

-- at the first entry of the first list
abbrev pub new_walk : Walk
new_walk = record { list = 0; entry = 0 }

-- the first entry from where the walk stands on; the header's refusals come first
unfoldable pub next_of : Walk → List ℕ → Told Next
next_of w file = and_then (read_header file) (λ h. first_of (rest_of file h w.list w.entry))

-- a walk stands behind the entry that it found, and else where it stood
unfoldable pub walk_after : Walk → Told Next → Walk
walk_after w (given (entry f)) = record { list = f.at.list; entry = f.at.entry + 1 }
walk_after w (given no_more) = w
walk_after w (refused n values) = w

-- an answer's number and values, with the entry and the tag beside it
unfoldable pub walk_told : Result (Option EntryPlace) RkBootError → RkBootEntry → List ℕ → Told Next
walk_told (Ok (Some at)) says tag = given (entry (record { at = at; says = says }))
walk_told (Ok None) says tag = given no_more
walk_told (Err error) says tag = boot_error_told error tag

-- the number of what it tells, whatever stands beside it
abbrev pub walk_number : Result (Option EntryPlace) RkBootError → ℕ
walk_number a = number (walk_told a no_entry no_tag)

-- the entry that is told, zeros where none is
unfoldable pub entry_in : Told Next → RkBootEntry
entry_in (given (entry f)) = f.says
entry_in (given no_more) = no_entry
entry_in (refused n values) = no_entry

-- a step that answers r from walk w, where `told` is right
pub record WalkMeets (r : WalkStep) (w : Walk) (told : Told Next) : Type 0 where
  pub tells : walk_told r.answer r.entry r.unknown_tag ≡ told
  pub says : r.entry ≡ entry_in told
  pub tag : r.unknown_tag ≡ tag_in told
  pub next : r.walk ≡ walk_after w told

-- how many of these entries are of a list
unfoldable pub count_in : ℕ → List Found → ℕ
count_in list [] = 0
count_in list (f ∷ fs) = pick (eqb f.at.list list) 1 0 + count_in list fs

abbrev pub counts_of : List Found → EntryCounts
counts_of fs = record { entry_471 = count_in 0 fs; entry_472 = count_in 1 fs; entry_loader = count_in 2 fs }

-- "the number of entries of each list, or the first refusal with the list and the entry it stands at"
unfoldable pub examined : List ℕ → Told EntryCounts
examined file = and_then (entries_of file) (λ fs. given (counts_of fs))

unfoldable pub examine_told : Result EntryCounts RkBootError → List ℕ → Told EntryCounts
examine_told (Ok counts) tag = given counts
examine_told (Err error) tag = boot_error_told error tag

abbrev pub examine_number : Result EntryCounts RkBootError → ℕ
examine_number a = number (examine_told a no_tag)

pub record ExamineMeets (r : Examined) (told : Told EntryCounts) : Type 0 where
  pub tells : examine_told r.answer r.unknown_tag ≡ told
  pub tag : r.unknown_tag ≡ tag_in told
