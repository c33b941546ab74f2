-- What the private functions make: a reader of the promises needs none of it.
use Rattle.std.specs.Prelude.{ℕ, List}
use Rattle.protocol_status.specs.declared.failure.UsbOperationError.{UsbOperationError}
use Rattle.operation_finish.specs.declared.UsbReply.{UsbReply}
use Rattle.operation_finish.specs.declared.Beside.{Beside}
use Rattle.operation_finish.specs.declared.Finished.{Finished}
use Rattle.operation_finish.specs.Reply.{blank}
use Rattle.std.specs.declared.result.Result.TheVariants.{Ok, Err}

abbrev pub failed_with : UsbOperationError → List ℕ → Finished
failed_with error s = record { answer = Err error; beside = blank s }

abbrev pub replied_with : UsbReply → Beside → Finished
replied_with reply b = record { answer = Ok reply; beside = b }
