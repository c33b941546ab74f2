-- An upload driven to its end over one lent output: each transfer is put over the one before it.
use Rattle.std.specs.Prelude.{ℕ, zero, suc, ◌≡◌, List, eqb, length, take, drop}
use Rattle.promise.specs.Told.{Told, given, refused, number}
use Rattle.promise.specs.Rules.{pick}
use Rattle.promise.specs.Bytes.{front}
use Rattle.promise.specs.Does.{Does, said, sent, after}
use Rattle.maskrom.specs.declared.MaskRomOperation.{MaskRomOperation}
use Rattle.maskrom.specs.declared.WholeUpload.{WholeUpload}
use Rattle.maskrom.specs.Answers.{Handed, took, filled, Asks, writes, finish}
use Rattle.maskrom.specs.PartWise.{fresh, part_step, close_step}
use Rattle.maskrom.specs.Whole.{start_step, whole_step}
use Rattle.promise.specs.Run.{Turned, ends, goes, end_told, runs}

-- what a drive comes to: 0 or the number of its refusal, and the output
pub record Drove : Type 0 where
  pub number : ℕ
  pub out : List ℕ

abbrev pub drove : ℕ → List ℕ → Drove
drove n out = record { number = n; out = out }

-- a function that answers r and leaves the output so
pub record DriveMeets (r : ℕ) (out : List ℕ) (d : Drove) : Type 0 where
  pub tells : r ≡ d.number
  pub leaves : out ≡ d.out

-- closing and whole-upload steps

pub record Stepping (R : Type 0) : Type 0 where
  pub upload : R
  pub out : List ℕ

abbrev pub stepping : {R : Type 0} → R → List ℕ → Stepping R
stepping upload out = record { upload = upload; out = out }

-- a transfer is followed by the next step; the finish and a refusal are the end
unfoldable pub onward : {S : Type 0} → Told Asks → S → Turned Unit S
onward (given (writes c)) s = goes s
onward (given finish) s = ends (given tt) s
onward (refused n vs) s = ends (refused n vs) s

unfoldable pub step_turn : {R : Type 0} → (R → ℕ → Told (Does Asks R)) → Stepping R → Turned Unit (Stepping R)
step_turn step s =
    let d = step s.upload (length s.out) in
    onward (said d) (stepping (after s.upload d) (front (sent d) s.out))

-- step by step, with a budget: 28 where it is used before
unfoldable pub step_drive : {R : Type 0} → (R → ℕ → Told (Does Asks R)) → ℕ → R → List ℕ → Drove
step_drive step budget r out =
    let run = runs (step_turn step) budget (stepping r out) in
    drove (number (end_told run.end)) run.state.out

-- whole uploads

abbrev pub step_of : List ℕ → WholeUpload → ℕ → Told (Does Asks WholeUpload)
step_of image u room = whole_step u image room

unfoldable pub on_start : Told (Does Unit WholeUpload) → List ℕ → List ℕ → ℕ → Drove
on_start (given d) image out budget = step_drive (step_of image) budget d.becomes out
on_start (refused n vs) image out budget = drove n out

-- from the start to the finish
abbrev pub whole_drive : ℕ → List ℕ → List ℕ → ℕ → Drove
whole_drive area image out budget = on_start (start_step area image) image out budget

-- parts

pub record Handing : Type 0 where
  pub operation : MaskRomOperation
  pub left : List ℕ
  pub out : List ℕ

abbrev pub handing : MaskRomOperation → List ℕ → List ℕ → Handing
handing operation left out = record { operation = operation; left = left; out = out }

-- what was not taken is handed over again
unfoldable pub on_part : Told Handed → MaskRomOperation → List ℕ → List ℕ → Turned Unit Handing
on_part (given (took n)) m left out = goes (handing m (drop n left) out)
on_part (given (filled n c)) m left out = goes (handing m (drop n left) out)
on_part (refused n vs) m left out = ends (refused n vs) (handing m left out)

-- the next `size` bytes of the image, or all where there are fewer; the end once none are left
unfoldable pub part_turn : ℕ → Handing → Turned Unit Handing
part_turn size s =
    let d = part_step s.operation (take size s.left) (length s.out) in
    pick (eqb (length s.left) 0) (ends (given tt) s)
    (on_part (said d) (after s.operation d) s.left (front (sent d) s.out))

-- an image that was handed over whole is closed: two transfers at most and the finish
abbrev pub most_closing : ℕ
most_closing = 3

unfoldable pub on_handed : ℕ → MaskRomOperation → List ℕ → Drove
on_handed zero m out = step_drive close_step most_closing m out
on_handed (suc n) m out = drove (suc n) out

-- from the start to the finish, in parts of `size` bytes
unfoldable pub part_drive : ℕ → ℕ → List ℕ → List ℕ → ℕ → Drove
part_drive area size image out budget =
    let run = runs (part_turn size) budget (handing (fresh area) image out) in
    on_handed (number (end_told run.end)) run.state.operation run.state.out
