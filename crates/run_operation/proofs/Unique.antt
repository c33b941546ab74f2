-- Two runs that the contract allows are equal: each is read off what it tells.
use Prim.Native.Nat.{ℕ}
use mathlib.Core.Path.{◌≡◌, refl, ap, ap₂, sym, ◌∙◌}
use mathlib.Core.List.{List}
use Rattle.operation_finish.specs.Reply.{Reply}
use Rattle.operation_finish.specs.declared.Beside.{Beside}
use Rattle.promise.specs.Run.{End, tells, out_of_steps, end_told, Ran}
use Rattle.run_turn.specs.Turn.{UsbState, usb_state}
use Rattle.run_turn.specs.Answers.{stop_told}
use Rattle.run_turn.proofs.Unique.{stop_for, stop_for_lem, stop_number}
use Rattle.run_operation.specs.declared.UsbRun.{UsbRun}
use Rattle.promise.specs.Told.{number}
use Rattle.rule_number.specs.Number.{number_of}
use Rattle.run_operation.specs.Code.{run_ended}
use Rattle.run_operation.specs.Answers.{run_error_number, answer_end, RunMeets}
use Rattle.std.specs.Prelude.{Result}
use Rattle.operation_finish.specs.declared.UsbReply.{UsbReply}
use Rattle.run_operation.specs.declared.RunError.{RunError}
use Rattle.std.specs.declared.result.Result.TheVariants.{Ok, Err}
use Rattle.run_operation.specs.declared.RunError.TheVariants as run_error

abbrev answer_for : End Reply → Result UsbReply RunError
answer_for (tells told) = run_ended (stop_for told)
answer_for out_of_steps = (Err run_error.OutOfSteps)

answer_for_lem : (a : Result UsbReply RunError) (b : Beside) → answer_for (answer_end a b) ≡ a
unfolding answer_end
answer_for_lem (Ok reply) b = ap run_ended (stop_for_lem (Ok reply) b)
answer_for_lem (Err (run_error.Stopped stop)) b = ap run_ended (stop_for_lem (Err stop) b)
answer_for_lem (Err run_error.OutOfSteps) b = refl

pub run_unique : (r s : UsbRun) (flash₁ flash₂ bytes₁ bytes₂ : List ℕ) (run : Ran Reply UsbState) → RunMeets r flash₁ bytes₁ run → RunMeets s flash₂ bytes₂ run
    → (r ≡ s) × (flash₁ ≡ flash₂) × (bytes₁ ≡ bytes₂)
run_unique r s flash₁ flash₂ bytes₁ bytes₂ run p q =
    let answers : r.answer ≡ s.answer =
    sym (answer_for_lem r.answer r.beside) ∙ ap answer_for (p.tells ∙ sym q.tells) ∙ answer_for_lem s.answer s.beside in
    let states : usb_state r.operation r.device flash₁ bytes₁ ≡ usb_state s.operation s.device flash₂ bytes₂ = p.leaves ∙ sym q.leaves in
    let first : ◌≡◌ {A = UsbRun} r (record { answer = s.answer; beside = s.beside; operation = r.operation; device = r.device; steps = r.steps }) =
    ap₂ (λ (x : Result UsbReply RunError) (b : Beside). record { answer = x; beside = b; operation = r.operation; device = r.device; steps = r.steps }) answers (p.beside ∙ sym q.beside) in (
      first
          ∙ ap₂ (λ (z : UsbState) (n : ℕ). record { answer = s.answer; beside = s.beside; operation = z.operation; device = z.device; steps = n }) states (p.steps ∙ sym q.steps),
      ap (λ (z : UsbState). z.flash) states,
      ap (λ (z : UsbState). z.«data») states,
    )

-- the number of an answer is the number of what it tells
pub run_number : (r : Result UsbReply RunError) (b : Beside) → number (end_told (answer_end r b)) ≡ number_of run_error_number r
unfolding number end_told answer_end stop_told
run_number (Ok reply) b = refl
run_number (Err (run_error.Stopped stop)) b = stop_number (Err stop) b
run_number (Err run_error.OutOfSteps) b = refl
