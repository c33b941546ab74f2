-- Any caller of an upload, over what its functions promise. He sees answers and output alone, lends any output at each call, and does with it what he
-- likes between two calls.
use Rattle.std.specs.Prelude.{ℕ, zero, suc, ◌+◌, ◌<◌, ◌≤◌, ◌≡◌, List, [], ◌∷◌, ◌++◌, ◌⊎◌, length, take, drop}
use Rattle.promise.specs.Told.{given, refused}
use Rattle.maskrom_transfer.specs.Moves.{block_size}
use Rattle.maskrom.specs.declared.Control.{Control}
use Rattle.maskrom.specs.declared.MaskRomOperation.{MaskRomOperation}
use Rattle.maskrom.specs.declared.PartStepped.{PartStepped}
use Rattle.maskrom.specs.declared.CloseStepped.{CloseStepped}
use Rattle.maskrom.specs.declared.WholeUpload.{WholeUpload}
use Rattle.maskrom.specs.declared.WholeStart.{WholeStart}
use Rattle.maskrom.specs.declared.WholeStepped.{WholeStepped}
use Rattle.maskrom.specs.Answers.{Handed, took, filled, Asks, writes, finish, part_told, step_told, start_told}
use Rattle.maskrom.specs.PartWise.{fresh}
use Rattle.maskrom.specs.Calls.{PartMeets, CloseMeets, StepMeets}
use Rattle.maskrom.specs.Whole.{StartMeets}
use Rattle.theorems.specs.PartDriver.{Transfer, seen}

-- how many bytes an answer says were taken, and the transfer that it asks for, where it does, with the output as the call left it
unfoldable pub taken_by : Handed → ℕ
taken_by (took n) = n
taken_by (filled n c) = n

unfoldable pub handed_seen : Handed → List ℕ → List Transfer
handed_seen (took n) out = []
handed_seen (filled n c) out = seen c out ∷ []

unfoldable pub asked_seen : Asks → List ℕ → List Transfer
asked_seen (writes c) out = seen c out ∷ []
asked_seen finish out = []

-- where any calls at all can bring a caller of a part-wise upload: to a record, with these bytes taken, by the counts of the answers, and these
-- transfers seen
pub data Called (area : ℕ) : MaskRomOperation → List ℕ → List Transfer → Type 0 where
  -- `MaskRomOperation::new`
  made : (m : MaskRomOperation) → m ≡ fresh area → Called area m [] []
  -- a part, or a closing step, that is not refused
  taking : (m : MaskRomOperation) (taken : List ℕ) (ts : List Transfer) (part before now : List ℕ) (r : PartStepped) (a : Handed)
      → Called area m taken ts → PartMeets r m part before now → part_told r.step ≡ given a
      → Called area r.next (taken ++ take (taken_by a) part) (ts ++ handed_seen a now)
  closing : (m : MaskRomOperation) (taken : List ℕ) (ts : List Transfer) (before now : List ℕ) (r : CloseStepped) (a : Asks)
      → Called area m taken ts → CloseMeets r m before now → step_told r.step ≡ given a
      → Called area r.next taken (ts ++ asked_seen a now)
  -- a call that is refused
  no_part : (m : MaskRomOperation) (taken : List ℕ) (ts : List Transfer) (part before now : List ℕ) (r : PartStepped) (n : ℕ) (vs : List ℕ)
      → Called area m taken ts → PartMeets r m part before now → part_told r.step ≡ refused n vs → Called area r.next taken ts
  no_closing : (m : MaskRomOperation) (taken : List ℕ) (ts : List Transfer) (before now : List ℕ) (r : CloseStepped) (n : ℕ) (vs : List ℕ)
      → Called area m taken ts → CloseMeets r m before now → step_told r.step ≡ refused n vs → Called area r.next taken ts

-- he went on until he was answered the finish
pub data Uploaded (area : ℕ) : List ℕ → List Transfer → Type 0 where
  uploaded : (m : MaskRomOperation) (taken : List ℕ) (ts : List Transfer) (before now : List ℕ) (r : CloseStepped)
      → Called area m taken ts → CloseMeets r m before now → step_told r.step ≡ given finish → Uploaded area taken ts

-- how many of his calls took a byte at least, and how many closing steps were not refused
unfoldable pub one_of : ℕ → ℕ
one_of zero = 0
one_of (suc n) = 1

unfoldable pub taking_calls : {area : ℕ} (m : MaskRomOperation) (taken : List ℕ) (ts : List Transfer) → Called area m taken ts → ℕ
taking_calls _ _ _ (made m e) = 0
taking_calls _ _ _ (taking m taken ts part before now r a d p g) = taking_calls m taken ts d + one_of (taken_by a)
taking_calls _ _ _ (closing m taken ts before now r a d p g) = taking_calls m taken ts d
taking_calls _ _ _ (no_part m taken ts part before now r n vs d p g) = taking_calls m taken ts d
taking_calls _ _ _ (no_closing m taken ts before now r n vs d p g) = taking_calls m taken ts d

unfoldable pub closing_steps : {area : ℕ} (m : MaskRomOperation) (taken : List ℕ) (ts : List Transfer) → Called area m taken ts → ℕ
closing_steps _ _ _ (made m e) = 0
closing_steps _ _ _ (taking m taken ts part before now r a d p g) = closing_steps m taken ts d
closing_steps _ _ _ (closing m taken ts before now r a d p g) = closing_steps m taken ts d + 1
closing_steps _ _ _ (no_part m taken ts part before now r n vs d p g) = closing_steps m taken ts d
closing_steps _ _ _ (no_closing m taken ts before now r n vs d p g) = closing_steps m taken ts d

-- a caller who has an image to upload

-- where his calls can bring him: to a record, with `left` of the image to be handed over yet, and these transfers seen. Of calls that are refused nothing
-- is asked.
pub data Reached (area : ℕ) (image : List ℕ) : MaskRomOperation → List ℕ → List Transfer → Type 0 where
  -- `MaskRomOperation::new`: all of the image is left
  starts : (m : MaskRomOperation) → m ≡ fresh area → Reached area image m image []
  -- a part that begins what is left, any of it or none: what the answer says was taken is left no more
  hands : (m : MaskRomOperation) (left : List ℕ) (ts : List Transfer) (part rest before now : List ℕ) (r : PartStepped) (a : Handed)
      → Reached area image m left ts → left ≡ part ++ rest → PartMeets r m part before now → part_told r.step ≡ given a
      → Reached area image r.next (drop (taken_by a) left) (ts ++ handed_seen a now)
  -- a closing step, once nothing is left
  closes : (m : MaskRomOperation) (left : List ℕ) (ts : List Transfer) (before now : List ℕ) (r : CloseStepped) (a : Asks)
      → Reached area image m left ts → left ≡ [] → CloseMeets r m before now → step_told r.step ≡ given a
      → Reached area image r.next left (ts ++ asked_seen a now)
  -- a call that is refused, whatever it hands over and whenever it comes
  part_refused : (m : MaskRomOperation) (left : List ℕ) (ts : List Transfer) (part before now : List ℕ) (r : PartStepped) (n : ℕ) (vs : List ℕ)
      → Reached area image m left ts → PartMeets r m part before now → part_told r.step ≡ refused n vs
      → Reached area image r.next left ts
  close_refused : (m : MaskRomOperation) (left : List ℕ) (ts : List Transfer) (before now : List ℕ) (r : CloseStepped) (n : ℕ) (vs : List ℕ)
      → Reached area image m left ts → CloseMeets r m before now → step_told r.step ≡ refused n vs
      → Reached area image r.next left ts

-- he went on until he was answered the finish, and has seen these transfers
pub data Finishes (area : ℕ) (image : List ℕ) : List Transfer → Type 0 where
  finishes : (m : MaskRomOperation) (left : List ℕ) (ts : List Transfer) (before now : List ℕ) (r : CloseStepped)
      → Reached area image m left ts → CloseMeets r m before now → step_told r.step ≡ given finish → Finishes area image ts

-- what comes of it if he lends 4,096 bytes of output or more at each call

-- whatever closing steps he makes from here, having seen `ts`: none is refused, the last of so many at the latest is answered the finish, and then he has
-- seen `all`
unfoldable pub ClosesBy : ℕ → List Transfer → MaskRomOperation → List Transfer → Type 0
ClosesBy zero all m ts = ⊥
ClosesBy (suc steps) all m ts =
    (before now : List ℕ) (r : CloseStepped) → block_size ≤ length before → CloseMeets r m before now
    → ((step_told r.step ≡ given finish) × (ts ≡ all))
    ⊎ ((c : Control) × (step_told r.step ≡ given (writes c)) × ClosesBy steps all r.next (ts ++ (seen c now ∷ [])))

-- whatever slices he hands over from here, each of a byte at least and beginning what is left: none is refused, each call takes a byte at least, nothing is
-- left after so many of them at the latest, and once nothing is left he comes to the finish by three closing steps at most
unfoldable pub ComesBy : ℕ → List Transfer → MaskRomOperation → List ℕ → List Transfer → Type 0
ComesBy zero all m left ts = (left ≡ []) × ClosesBy 3 all m ts
ComesBy (suc calls) all m left ts =
    (left ≡ [] → ClosesBy 3 all m ts)
    × ((part rest before now : List ℕ) (r : PartStepped) → left ≡ part ++ rest → 0 < length part → block_size ≤ length before → PartMeets r m part before now
    → (a : Handed) × (part_told r.step ≡ given a) × (0 < taken_by a) × ComesBy calls all r.next (drop (taken_by a) left) (ts ++ handed_seen a now))

-- any caller of a whole upload, who lends its image at every step

-- where his calls can bring him: to a record, with these transfers seen. A step that is refused may have been lent anything.
pub data Stepped (area : ℕ) (image : List ℕ) : WholeUpload → List Transfer → Type 0 where
  -- `write_area`
  begun : (r : WholeStart) → StartMeets r area image → start_told r.start ≡ given tt → Stepped area image r.upload []
  stepping : (u : WholeUpload) (ts : List Transfer) (before now : List ℕ) (r : WholeStepped) (a : Asks)
      → Stepped area image u ts → StepMeets r u image before now → step_told r.step ≡ given a
      → Stepped area image r.next (ts ++ asked_seen a now)
  no_step : (u : WholeUpload) (ts : List Transfer) (other before now : List ℕ) (r : WholeStepped) (n : ℕ) (vs : List ℕ)
      → Stepped area image u ts → StepMeets r u other before now → step_told r.step ≡ refused n vs → Stepped area image r.next ts

-- he went on until he was answered the finish, and has seen these transfers
pub data WholeFinishes (area : ℕ) (image : List ℕ) : List Transfer → Type 0 where
  whole_finishes : (u : WholeUpload) (ts : List Transfer) (before now : List ℕ) (r : WholeStepped)
      → Stepped area image u ts → StepMeets r u image before now → step_told r.step ≡ given finish → WholeFinishes area image ts

-- how many of his steps were not refused
unfoldable pub steps_made : {area : ℕ} {image : List ℕ} (u : WholeUpload) (ts : List Transfer) → Stepped area image u ts → ℕ
steps_made _ _ (begun r m g) = 0
steps_made _ _ (stepping u ts before now r a d p g) = steps_made u ts d + 1
steps_made _ _ (no_step u ts other before now r n vs d p g) = steps_made u ts d
