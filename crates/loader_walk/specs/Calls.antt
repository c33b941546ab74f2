-- Any caller who walks over one file.
use Rattle.std.specs.Prelude.{ℕ, ◌+◌, ◌≤◌, ◌<◌, ◌≡◌, List, [], ◌∷◌, ◌++◌, ◌⊎◌, length}
use Rattle.promise.specs.Told.{Told, given, refused}
use Rattle.loader_records.specs.declared.header.RkBootHeader.{RkBootHeader}
use Rattle.loader_records.specs.Records.{entry_length, read_header}
use Rattle.loader_walk.specs.declared.walk.Walk.{Walk}
use Rattle.loader_walk.specs.declared.walk.WalkStep.{WalkStep}
use Rattle.loader_walk.specs.Entries.{Found, found, list_at, start_of, entry_at}
use Rattle.loader_walk.specs.Walking.{Next, entry, no_more, next_of, WalkMeets}
use Rattle.std.specs.declared.result.Result.TheVariants.{Ok}
use Rattle.std.specs.declared.option.Option.TheVariants.{Some}

-- a step from walk w that found this entry and handed back this record; it is anything that its contract allows
pub record Finds (file : List ℕ) (w : Walk) (f : Found) (next : Walk) : Type 0 where
  pub step : WalkStep
  pub meets : WalkMeets step w (next_of w file)
  pub answers : step.answer ≡ Ok (Some f.at)
  pub says : step.entry ≡ f.says
  pub goes : step.walk ≡ next

-- steps from one walk to another, each from the record that the one before it handed back, and the entries that they found
abbrev pub Walked : List ℕ → Walk → List Found → Walk → Type 0
Walked file w [] end = w ≡ end
Walked file w (f ∷ fs) end = (next : Walk) × Finds file w f next × Walked file next fs end

-- what a step is told where these entries are still to come
abbrev pub next_in : List Found → Told Next
next_in [] = given no_more
next_in (f ∷ fs) = given (entry f)

-- of the entries `gs` of a file, those that are still to come where `fs` were found
pub record Left (file : List ℕ) (gs fs : List Found) (w : Walk) : Type 0 where
  pub rest : List Found
  pub joined : gs ≡ fs ++ rest
  pub next : next_of w file ≡ next_in rest

-- a walk over a file that is refused so: its next step is, or finds another entry
abbrev pub Refuses : List ℕ → Walk → ℕ → List ℕ → Type 0
Refuses file w n values = (next_of w file ≡ refused n values) ⊎ ((f : Found) × (next_of w file ≡ given (entry f)))

-- an entry's data is in the file
abbrev pub Held : List ℕ → Found → Type 0
Held file f = f.at.place + f.at.length ≤ length file

-- an entry stands where its list and its number say, with all of its 57 bytes, and its data is in the file
pub record Stands (file : List ℕ) (f : Found) : Type 0 where
  pub header : RkBootHeader
  pub read : read_header file ≡ given header
  pub list : f.at.list < 3
  pub number : f.at.entry < (list_at header f.at.list).count
  pub wide : entry_length ≤ (list_at header f.at.list).size
  pub inside : start_of (list_at header f.at.list) f.at.entry + entry_length ≤ length file
  pub is : f ≡ found f.at.list f.at.entry (entry_at file (list_at header f.at.list) f.at.entry)
  pub held : Held file f
