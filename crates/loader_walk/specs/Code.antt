-- What the private functions of the code give.
use Rattle.std.specs.Prelude.{ℕ, ◌+◌, ◌<◌, ◌≡◌, List, [], Option, Result}
use Rattle.promise.specs.Told.{Told, given}
use Rattle.loader_records.specs.declared.entry.RkBootEntry.{RkBootEntry}
use Rattle.loader_records.specs.declared.header.RkBootHeader.{RkBootHeader}
use Rattle.loader_records.specs.Records.{no_entry}
use Rattle.loader_records.specs.Refusals.{boot_error_told, no_tag}
use Rattle.loader_walk.specs.declared.walk.Walk.{Walk}
use Rattle.loader_walk.specs.declared.walk.WalkStep.{WalkStep}
use Rattle.loader_walk.specs.declared.whole.EntryCounts.{EntryCounts}
use Rattle.loader_walk.specs.Entries.{Found, found, list_at, rest_of}
use Rattle.loader_walk.specs.declared.walk.EntryPlace.{EntryPlace}
use Rattle.loader_records.specs.declared.answer.RkBootError.{RkBootError}
use Rattle.std.specs.declared.result.Result.TheVariants.{Ok, Err}
use Rattle.std.specs.declared.option.Option.TheVariants.{Some, None}

-- nothing found: the walk stays where it is
abbrev pub stopped : Walk → Result (Option EntryPlace) RkBootError → List ℕ → WalkStep
stopped w answer tag = record { answer = answer; entry = no_entry; unknown_tag = tag; walk = w }

-- an entry that was found
abbrev pub found_step : ℕ → ℕ → RkBootEntry → WalkStep
found_step list i e =
    record { answer = Ok (Some (found list i e).at); entry = e; unknown_tag = no_tag; walk = record { list = list; entry = i + 1 } }

-- what a look at one entry tells
abbrev pub looked_up_told : ℕ → ℕ → Result RkBootEntry RkBootError → Told Found
looked_up_told list i (Ok e) = given (found list i e)
looked_up_told list i (Err error) = boot_error_told error no_tag

-- a place that has the same entries from it on, and an entry
pub record Seeks (h : RkBootHeader) (from to : Walk) : Type 0 where
  pub same : (file : List ℕ) → rest_of file h to.list to.entry ≡ rest_of file h from.list from.entry
  pub list : to.list < 3
  pub there : to.entry < (list_at h to.list).count

-- such a place, or none where nothing is left
abbrev pub SeeksFor : RkBootHeader → Walk → Option Walk → Type 0
SeeksFor h from (Some to) = Seeks h from to
SeeksFor h from None = (file : List ℕ) → rest_of file h from.list from.entry ≡ []

-- how many entries the header says that each list has
abbrev pub header_counts : RkBootHeader → EntryCounts
header_counts h = record { entry_471 = h.entry_471.count; entry_472 = h.entry_472.count; entry_loader = h.entry_loader.count }
