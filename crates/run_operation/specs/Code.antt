-- What the private functions make: a reader of the promises needs none of it.
use Rattle.protocol_bytes.specs.Signature.{no_signature}
use Rattle.operation_finish.specs.Reply.{blank}
use Rattle.operation.specs.declared.steps.UsbOperation.{UsbOperation}
use Rattle.mock.specs.declared.device.MockState.{MockState}
use Rattle.run_operation.specs.declared.UsbRun.{UsbRun}
use Rattle.std.specs.Prelude.{Result}
use Rattle.operation_finish.specs.declared.UsbReply.{UsbReply}
use Rattle.run_turn.specs.declared.StopError.{StopError}
use Rattle.std.specs.declared.result.Result.TheVariants.{Ok, Err}
use Rattle.run_operation.specs.declared.RunError.TheVariants.{Stopped}
use Rattle.run_operation.specs.declared.RunError.{RunError}

-- how a run ends that stops before its budget is used
abbrev pub run_ended : Result UsbReply StopError → Result UsbReply RunError
run_ended (Ok reply) = Ok reply
run_ended (Err stop) = Err (Stopped stop)

-- the record of a run that is refused before its first step
abbrev pub unstarted_by : StopError → UsbOperation → MockState → UsbRun
unstarted_by stop operation device =
    record { answer = Err (Stopped stop); beside = blank no_signature; operation = operation; device = device; steps = 0 }
