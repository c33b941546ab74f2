-- Sequences of calls on one upload: the bytes that they take and the record that they leave. A call is known by its contract alone, so that a
-- sequence is any caller's.
use Rattle.std.specs.Prelude.{ℕ, ◌≡◌, List, [], ◌++◌, length, take}
use Rattle.promise.specs.Told.{Told, given, refused}
use Rattle.promise.specs.Rules.{too_short}
use Rattle.promise.specs.Does.{Meets}
use Rattle.maskrom.specs.declared.MaskRomOperation.{MaskRomOperation}
use Rattle.maskrom.specs.declared.WholeUpload.{WholeUpload}
use Rattle.maskrom.specs.declared.PartStepped.{PartStepped}
use Rattle.maskrom.specs.declared.CloseStepped.{CloseStepped}
use Rattle.maskrom.specs.declared.WholeStepped.{WholeStepped}
use Rattle.maskrom.specs.Answers.{Handed, took, filled, Asks, part_told, step_told}
use Rattle.maskrom.specs.PartWise.{part_step, close_step}
use Rattle.maskrom.specs.Whole.{chunk, whole_step}

-- the contracts of `MaskRomOperation::part`, `MaskRomOperation::close` and `WholeUpload::step`, of an output that held `before` and holds `now`
abbrev pub PartMeets : PartStepped → MaskRomOperation → List ℕ → List ℕ → List ℕ → Type 0
PartMeets r m part before now = Meets (part_told r.step) r.next before now m (part_step m part (length before))

abbrev pub CloseMeets : CloseStepped → MaskRomOperation → List ℕ → List ℕ → Type 0
CloseMeets r m before now = Meets (step_told r.step) r.next before now m (close_step m (length before))

abbrev pub StepMeets : WholeStepped → WholeUpload → List ℕ → List ℕ → List ℕ → Type 0
StepMeets r u image before now = Meets (step_told r.step) r.next before now u (whole_step u image (length before))

-- how many bytes a part's answer says that it took; a refused part takes none
unfoldable pub count_of : Told Handed → ℕ
count_of (given (took n)) = n
count_of (given (filled n c)) = n
count_of (refused n vs) = 0

abbrev pub taken_of : PartStepped → List ℕ → List ℕ
taken_of r part = take (count_of (part_told r.step)) part

-- calls of `part` and `close` on `m`, in any order and number, refused ones too: the bytes that the parts took, joined, and the record that is left
pub data PartCalls (m : MaskRomOperation) : List ℕ → MaskRomOperation → Type 0 where
  no_calls : PartCalls m [] m
  part_call : (p : List ℕ) (here : MaskRomOperation) → PartCalls m p here → (part : List ℕ) (r : PartStepped) (before now : List ℕ)
      → PartMeets r here part before now → PartCalls m (p ++ taken_of r part) r.next
  close_call : (p : List ℕ) (here : MaskRomOperation) → PartCalls m p here → (r : CloseStepped) (before now : List ℕ)
      → CloseMeets r here before now → PartCalls m p r.next

-- every closing step among them was refused
abbrev pub NoneClosed : (m : MaskRomOperation) (p : List ℕ) (later : MaskRomOperation) → PartCalls m p later → Type 0
NoneClosed m p later no_calls = Unit
NoneClosed m p later (part_call q here calls part r before now meets) = NoneClosed m q here calls
NoneClosed m p later (close_call q here calls r before now meets) = NoneClosed m q here calls × (step_told r.step ≡ refused too_short [])

-- the bytes of the image that a step takes: its chunk, and none where it is refused
unfoldable pub unless_refused : Told Asks → List ℕ → List ℕ
unless_refused (given a) w = w
unless_refused (refused n vs) w = []

abbrev pub sent_of : WholeStepped → WholeUpload → List ℕ → List ℕ
sent_of r u image = unless_refused (step_told r.step) (chunk u image)

-- calls of `step` on `u`, any number of them, refused ones too, each of which is lent an image of which `lends` holds: the bytes that they took,
-- joined, and the record that is left
pub data WholeCalls (lends : List ℕ → Type 0) (u : WholeUpload) : List ℕ → WholeUpload → Type 0 where
  no_steps : WholeCalls lends u [] u
  step_call : (p : List ℕ) (here : WholeUpload) → WholeCalls lends u p here → (image : List ℕ) → lends image → (r : WholeStepped) (before now : List ℕ)
      → StepMeets r here image before now → WholeCalls lends u (p ++ sent_of r here image) r.next
