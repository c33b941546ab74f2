-- What the private functions make: a reader of the promises needs none of it.
use Rattle.operation_finish.specs.declared.Beside.{Beside}
use Rattle.operation.specs.declared.steps.UsbOperation.{UsbOperation}
use Rattle.mock.specs.declared.device.MockState.{MockState}
use Rattle.run_turn.specs.declared.StopError.TheVariants as stop
use Rattle.run_turn.specs.declared.UsbTurned.{UsbTurned}
use Rattle.std.specs.Prelude.{Result}
use Rattle.operation.specs.declared.steps.StepError.{StepError}
use Rattle.operation.specs.declared.steps.StepError.TheVariants as step_error
use Rattle.mock_base.specs.declared.error.MockTransportError.{MockTransportError}
use Rattle.std.specs.declared.result.Result.TheVariants.{Ok, Err}
use Rattle.operation_finish.specs.declared.UsbReply.{UsbReply}
use Rattle.run_turn.specs.declared.StopError.{StopError}
use Rattle.std.specs.declared.ops.ControlFlow.{ControlFlow}
use Rattle.std.specs.declared.ops.ControlFlow.TheVariants.{Continue, Break}

-- a step's refusal, as the run's
abbrev pub stop_of : StepError → StopError
stop_of (step_error.Failed error) = stop.Failed error
stop_of step_error.OutputTooShort = stop.OutputTooShort
stop_of step_error.DataDiffers = stop.DataDiffers

-- a refused transfer is the end
unfoldable pub turn_after : Result Unit MockTransportError → (ControlFlow (Result UsbReply StopError) Unit)
turn_after (Ok u) = (Continue tt)
turn_after (Err error) = Break (Err (stop.Device error))

-- a read's bytes are given where the device did it
abbrev pub where_done : {A : Type 0} → Result Unit MockTransportError → A → A → A
where_done (Ok u) after before = after
where_done (Err error) after before = before

abbrev pub turned_by : ControlFlow (Result UsbReply StopError) Unit → Beside → UsbOperation → MockState → UsbTurned
turned_by turn beside operation device = record { turn = turn; beside = beside; operation = operation; device = device }

abbrev pub ended_by : Result UsbReply StopError → Beside → UsbOperation → MockState → UsbTurned
ended_by stop = turned_by (Break stop)
