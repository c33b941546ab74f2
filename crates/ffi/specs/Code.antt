-- What the private functions of the code promise.
use Rattle.std.specs.Prelude.{ℕ, ◌≡◌, List, Result, length}
use Rattle.std.specs.Borrow.{MutBor}
use Rattle.std.specs.declared.result.Result.TheVariants.{Ok, Err}
use Rattle.std.specs.declared.ops.ControlFlow.{ControlFlow}
use Rattle.std.specs.declared.ops.ControlFlow.TheVariants.{Continue, Break}
use Rattle.rule_number.specs.Number.{number_of}
use Rattle.promise.specs.Told.{Told, given, refused, number}
use Rattle.promise.specs.Does.{Does, Meets}
use Rattle.maskrom.specs.declared.UploadStep.{UploadStep}
use Rattle.maskrom.specs.declared.UploadError.{UploadError}
use Rattle.maskrom.specs.Answers.{Handed, took, filled, Asks, writes, finish, step_told}
use Rattle.promise.specs.Run.{end_told, Ran}
use Rattle.ffi.specs.declared.driving.HandedOver.{HandedOver}
use Rattle.ffi.specs.Drive.{Handing}

-- no refusal has the number 0, which C is told of an end without one
abbrev pub IsNumbered : {A : Type 0} → Result A ℕ → Type 0
IsNumbered {A} r = ◌≡◌ {A = Result A ℕ} r (Err 0) → ⊥

-- a function that answers r and leaves the output so, once the image is handed over or a part refused
pub record HandsOver (r : HandedOver) (out : List ℕ) (run : Ran Unit Handing) : Type 0 where
  pub tells : number_of (λ (n : ℕ). n) r.answer ≡ number (end_told run.end)
  pub numbered : IsNumbered r.answer
  pub next : r.operation ≡ run.state.operation
  pub leaves : out ≡ run.state.out

-- what the code reads off an answer: whether one more call follows, how many bytes a part took, or the number that it ends with
unfoldable pub pace_of : Told Asks → ControlFlow ℕ Unit
pace_of (given (writes c)) = Continue tt
pace_of (given finish) = Break 0
pace_of (refused n vs) = Break n

unfoldable pub part_pace : Told Handed → Result ℕ ℕ
part_pace (given (took n)) = Ok n
part_pace (given (filled n c)) = Ok n
part_pace (refused n vs) = Err n

-- every call of a step, as `calls` has them, comes to what `comes` says
abbrev pub CallsMeet : {R : Type 0} → (R → MutBor (List ℕ) → Result UploadStep UploadError × R → MutBor (List ℕ) → Type 0) → (R → ℕ → Told (Does Asks R)) → Type 0
CallsMeet {R} calls comes =
    (self : R) (lent : MutBor (List ℕ)) (r : Result UploadStep UploadError × R) (left : MutBor (List ℕ)) → calls self lent r left
    → Meets (step_told r.0) r.1 lent.now left.now self (comes self (length lent.now))
