-- What the private functions make: a reader of the promises needs none of it.
use Rattle.std.specs.Prelude.{ℕ, ltb}
use Rattle.promise.specs.Rules.{pick}
use Rattle.protocol_bytes.specs.Signature.{no_signature}
use Rattle.operation_finish.specs.Reply.{blank}
use Rattle.operation.specs.declared.steps.Operation.TheVariants as operation
use Rattle.operation.specs.declared.steps.Asked.{Asked}
use Rattle.operation.specs.declared.steps.UsbOperation.{UsbOperation}
use Rattle.operation.specs.declared.steps.UsbStep.TheVariants as usb_step
use Rattle.operation.specs.declared.steps.UsbStepped.{UsbStepped}
use Rattle.operation.specs.Record.{transfer_length, turned}
use Rattle.operation.specs.declared.giving.UsbGiven.{UsbGiven}
use Rattle.std.specs.Prelude.{Result}
use Rattle.operation_finish.specs.declared.UsbReply.{UsbReply}
use Rattle.protocol_status.specs.declared.failure.UsbOperationError.{UsbOperationError}
use Rattle.operation.specs.declared.steps.UsbStep.{UsbStep}
use Rattle.operation.specs.declared.steps.StepError.{StepError}
use Rattle.std.specs.declared.result.Result.TheVariants.{Ok, Err}
use Rattle.operation.specs.declared.steps.StepError.TheVariants as step_error
use Rattle.operation.specs.declared.giving.GivingError.{GivingError}

-- the record that a step hands back, beside an answer with nothing beside it
abbrev pub plain : Result UsbStep StepError → UsbOperation → UsbStepped
plain step op = record { step = step; beside = blank no_signature; next = op }

-- what the code answers at the data step of a sector operation
abbrev pub sectored : UsbOperation → ℕ → UsbStep → Asked → UsbStepped
sectored op lent step asked =
    pick (ltb lent (transfer_length op)) (plain (Err step_error.DataDiffers) op) (plain (Ok step) (turned op operation.CommandStatus asked))

abbrev pub gave : Result Unit GivingError → UsbOperation → UsbGiven
gave answer op = record { answer = answer; next = op }

-- the finish's answer, passed on
abbrev pub finished_by : Result UsbReply UsbOperationError → Result UsbStep StepError
finished_by (Ok reply) = Ok (usb_step.Finished reply)
finished_by (Err error) = Err (step_error.Failed error)
