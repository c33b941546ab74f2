-- Number and values of every answer of a run, and what stands beside it.
use Rattle.std.specs.Prelude.{ℕ, ◌≡◌, List}
use Rattle.protocol_bytes.specs.Signature.{no_signature}
use Rattle.operation_finish.specs.Reply.{Reply, blank}
use Rattle.operation_finish.specs.declared.Beside.{Beside}
use Rattle.promise.specs.Run.{End, tells, out_of_steps, steps_used, Ran}
use Rattle.run_turn.specs.Turn.{UsbState, usb_state}
use Rattle.run_turn.specs.Answers.{stop_error_number, stop_told, beside_told}
use Rattle.run_operation.specs.declared.UsbRun.{UsbRun}
use Rattle.std.specs.Prelude.{Result}
use Rattle.operation_finish.specs.declared.UsbReply.{UsbReply}
use Rattle.run_operation.specs.declared.RunError.{RunError}
use Rattle.std.specs.declared.result.Result.TheVariants.{Ok, Err}
use Rattle.run_operation.specs.declared.RunError.TheVariants.{Stopped, OutOfSteps}

abbrev pub run_error_number : RunError → ℕ
run_error_number (Stopped stop) = stop_error_number stop
run_error_number OutOfSteps = steps_used

unfoldable pub answer_end : Result UsbReply RunError → Beside → End Reply
answer_end (Ok reply) b = tells (stop_told (Ok reply) b)
answer_end (Err (Stopped stop)) b = tells (stop_told (Err stop) b)
answer_end (Err OutOfSteps) b = out_of_steps

unfoldable pub beside_end : End Reply → Beside
beside_end (tells told) = beside_told told
beside_end out_of_steps = blank no_signature

-- a run that answers r, and leaves the flash and the caller's data so
pub record RunMeets (r : UsbRun) (flash bytes : List ℕ) (run : Ran Reply UsbState) : Type 0 where
  pub tells : answer_end r.answer r.beside ≡ run.end
  pub beside : r.beside ≡ beside_end run.end
  pub steps : r.steps ≡ run.steps
  pub leaves : usb_state r.operation r.device flash bytes ≡ run.state
