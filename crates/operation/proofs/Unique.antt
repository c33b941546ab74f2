-- Two answers that a contract allows are equal: each is read off what it tells.
use Prim.Native.Nat.{ℕ}
use mathlib.Core.Path.{◌≡◌, refl, ap, ap₂, sym, ◌∙◌}
use mathlib.Core.List.{List}
use lib.Dec.{eqb}
use Rattle.promise.specs.Told.{Told, given, refused, number}
use Rattle.promise.specs.Rules.{pick}
use Rattle.protocol_status.specs.Failure.{failure_number, failure_values, failure_told}
use Rattle.protocol_status.specs.declared.failure.UsbOperationError.TheVariants.{TagMismatch, InvalidStatusSignature, InvalidStatusStatus, InvalidStatusLength, ReplyParseFailure, FailedStatus}
use Rattle.operation_finish.specs.Reply.{reply_given}
use Rattle.operation_finish.specs.declared.UsbReply.TheVariants as usb
use Rattle.operation_finish.specs.declared.Beside.{Beside}
use Rattle.operation_finish.proofs.Unique.{answer_of}
use Rattle.operation.specs.Code.{finished_by}
use Rattle.rule_number.specs.Number.{number_of}
use Rattle.operation.specs.declared.steps.Asked.{Asked}
use Rattle.operation.specs.declared.steps.Asked.TheVariants as asked
use Rattle.operation.specs.declared.steps.UsbStep.TheVariants as step
use Rattle.operation.specs.declared.steps.UsbOperation.{UsbOperation}
use Rattle.operation.specs.declared.steps.UsbStepped.{UsbStepped}
use Rattle.operation.specs.declared.giving.UsbGiven.{UsbGiven}
use Rattle.operation.specs.Step.{Asks, writes_command, writes_data, reads, finished, Step, step_error_number, step_told, StepMeets}
use Rattle.operation.specs.Give.{Give, giving_error_number, giving_told, GiveMeets}
use Rattle.std.specs.Prelude.{Result}
use Rattle.operation_finish.specs.declared.UsbReply.{UsbReply}
use Rattle.protocol_status.specs.declared.failure.UsbOperationError.{UsbOperationError}
use Rattle.std.specs.declared.result.Result.TheVariants.{Ok, Err}
use Rattle.operation.specs.declared.steps.UsbStep.{UsbStep}
use Rattle.operation.specs.declared.steps.StepError.{StepError}
use Rattle.operation.specs.declared.steps.StepError.TheVariants as step_error
use Rattle.operation.specs.declared.giving.GivingError.{GivingError}
use Rattle.operation.specs.declared.giving.GivingError.TheVariants as giving_error

-- the refusal that has this number and these values: one that only a step has, or one of its finish
abbrev failure_of : Result UsbReply UsbOperationError → StepError
failure_of (Ok reply) = step_error.DataDiffers
failure_of (Err error) = step_error.Failed error

abbrev refusal_of : ℕ → List ℕ → Result UsbStep StepError
refusal_of n values =
    Err (pick (eqb n 20) step_error.OutputTooShort (pick (eqb n 27) step_error.DataDiffers (failure_of (answer_of (refused n values)))))

abbrev read_of : Asked → ℕ → Result UsbStep StepError
read_of asked.Nothing n = Ok step.WriteCommand
read_of asked.Inband n = Ok (step.ReadInband n)
read_of asked.Sectors n = Ok (step.ReadData n)
read_of asked.Status n = Ok (step.ReadStatus n)

-- the answer that tells this
abbrev pub step_for : Told Asks → Result UsbStep StepError
step_for (given writes_command) = Ok step.WriteCommand
step_for (given (writes_data n)) = Ok (step.WriteData n)
step_for (given (reads a n)) = read_of a n
step_for (given (finished reply)) = finished_by (answer_of (given reply))
step_for (refused n values) = refusal_of n values

replied_for : (reply : UsbReply) (b : Beside) → step_for (given (finished (reply_given reply b))) ≡ Ok (step.Finished reply)
unfolding reply_given
replied_for usb.ChipInfo b = refl
replied_for usb.FlashId b = refl
replied_for usb.FlashInfo b = refl
replied_for usb.Capability b = refl
replied_for usb.Nothing b = refl
replied_for (usb.Storage index) b = refl
replied_for (usb.Sectors transfer) b = refl

failed_for : (error : UsbOperationError) (b : Beside) → step_for (failure_told error b.signature) ≡ Err (step_error.Failed error)
unfolding failure_number failure_values
failed_for TagMismatch b = refl
failed_for InvalidStatusSignature b = refl
failed_for (InvalidStatusStatus byte) b = refl
failed_for InvalidStatusLength b = refl
failed_for ReplyParseFailure b = refl
failed_for FailedStatus b = refl

pub step_for_lem : (x : Result UsbStep StepError) (b : Beside) → step_for (step_told x b) ≡ x
unfolding step_told
step_for_lem (Ok step.WriteCommand) b = refl
step_for_lem (Ok (step.WriteData n)) b = refl
step_for_lem (Ok (step.ReadInband n)) b = refl
step_for_lem (Ok (step.ReadData n)) b = refl
step_for_lem (Ok (step.ReadStatus n)) b = refl
step_for_lem (Ok (step.Finished reply)) b = replied_for reply b
step_for_lem (Err (step_error.Failed error)) b = failed_for error b
step_for_lem (Err step_error.OutputTooShort) b = refl
step_for_lem (Err step_error.DataDiffers) b = refl

pub step_unique : (r s : UsbStepped) (before after₁ after₂ : List ℕ) (t : Step) → StepMeets r before after₁ t → StepMeets s before after₂ t
    → (r ≡ s) × (after₁ ≡ after₂)
step_unique r s before after₁ after₂ t p q =
    let steps : r.step ≡ s.step = sym (step_for_lem r.step r.beside) ∙ ap step_for (p.tells ∙ sym q.tells) ∙ step_for_lem s.step s.beside in
    let same : ◌≡◌ {A = UsbStepped} r (record { step = s.step; beside = s.beside; next = r.next }) =
    ap₂ (λ (x : Result UsbStep StepError) (b : Beside). record { step = x; beside = b; next = r.next }) steps (p.beside ∙ sym q.beside) in
    (same ∙ ap (λ (o : UsbOperation). record { step = s.step; beside = s.beside; next = o }) (p.next ∙ sym q.next), p.leaves ∙ sym q.leaves)

abbrev giving_of : Told Unit → Result Unit GivingError
giving_of (given u) = Ok tt
giving_of (refused n values) = pick (eqb n 22) (Err giving_error.NotAsked) (pick (eqb n 21) (Err giving_error.TooMany) (Err giving_error.DataDiffers))

giving_of_lem : (a : Result Unit GivingError) → giving_of (giving_told a) ≡ a
unfolding giving_told
giving_of_lem (Ok u) = refl
giving_of_lem (Err giving_error.NotAsked) = refl
giving_of_lem (Err giving_error.TooMany) = refl
giving_of_lem (Err giving_error.DataDiffers) = refl

pub give_unique : (r s : UsbGiven) (before after₁ after₂ : List ℕ) (g : Give) → GiveMeets r before after₁ g → GiveMeets s before after₂ g
    → (r ≡ s) × (after₁ ≡ after₂)
give_unique r s before after₁ after₂ g p q =
    let answers : r.answer ≡ s.answer = sym (giving_of_lem r.answer) ∙ ap giving_of (p.tells ∙ sym q.tells) ∙ giving_of_lem s.answer in
    (ap₂ (λ (a : Result Unit GivingError) (o : UsbOperation). record { answer = a; next = o }) answers (p.next ∙ sym q.next), p.leaves ∙ sym q.leaves)

-- the number of an answer is the number of what it tells
pub step_number : (r : Result UsbStep StepError) (b : Beside) → number (step_told r b) ≡ number_of step_error_number r
unfolding number step_told
step_number (Ok step.WriteCommand) b = refl
step_number (Ok (step.WriteData n)) b = refl
step_number (Ok (step.ReadInband n)) b = refl
step_number (Ok (step.ReadData n)) b = refl
step_number (Ok (step.ReadStatus n)) b = refl
step_number (Ok (step.Finished reply)) b = refl
step_number (Err (step_error.Failed error)) b = refl
step_number (Err step_error.OutputTooShort) b = refl
step_number (Err step_error.DataDiffers) b = refl

pub giving_number : (r : Result Unit GivingError) → number (giving_told r) ≡ number_of giving_error_number r
unfolding number giving_told
giving_number (Ok u) = refl
giving_number (Err giving_error.NotAsked) = refl
giving_number (Err giving_error.TooMany) = refl
giving_number (Err giving_error.DataDiffers) = refl
