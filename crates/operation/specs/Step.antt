-- The four steps of an operation: "Command out ..; data if the transfer length isn't 0; status in, 13 bytes; finish."
use Rattle.std.specs.Prelude.{ℕ, ◌≡◌, List, [], ◌∷◌, ltb}
use Rattle.promise.specs.Told.{Told, given, refused, and_then}
use Rattle.promise.specs.Rules.{Rule, or_refuse, differs, lent_rule, room_rule, too_short}
use Rattle.promise.specs.Bytes.{front}
use Rattle.protocol_status.specs.Failure.{failure_number, failure_told}
use Rattle.protocol_bytes.specs.Signature.{no_signature}
use Rattle.protocol.specs.CommandBytes.{command_length}
use Rattle.operation_finish.specs.Reply.{Reply, blank, reply_given, beside_of}
use Rattle.operation_finish.specs.Finish.{finishes}
use Rattle.operation_finish.specs.declared.Beside.{Beside}
use Rattle.operation.specs.declared.steps.Operation.{Operation}
use Rattle.operation.specs.declared.steps.Operation.TheVariants as operation
use Rattle.operation.specs.declared.steps.IOBytes.{IOBytes}
use Rattle.operation.specs.declared.steps.IOBytes.TheVariants as io
use Rattle.operation.specs.declared.steps.Asked.{Asked}
use Rattle.operation.specs.declared.steps.Asked.TheVariants as asked
use Rattle.operation.specs.declared.steps.UsbOperation.{UsbOperation}
use Rattle.operation.specs.declared.steps.UsbStep.TheVariants as step
use Rattle.operation.specs.declared.steps.UsbStepped.{UsbStepped}
use Rattle.operation.specs.Record.{io_of, status_size, transfer_length, inband_length, turned, commanded, command_out}
use Rattle.promise.specs.Does.{Puts}
use Rattle.std.specs.Prelude.{Result}
use Rattle.operation.specs.declared.steps.UsbStep.{UsbStep}
use Rattle.operation.specs.declared.steps.StepError.{StepError}
use Rattle.std.specs.declared.result.Result.TheVariants.{Ok, Err}
use Rattle.operation.specs.declared.steps.StepError.TheVariants.{Failed, OutputTooShort, DataDiffers}

-- what a step that is not refused asks for: a bulk write of the first 31 output bytes or of that many of the caller's data, a bulk read of that many
-- bytes for what was asked, or nothing any more
pub data Asks : Type 0 where
  writes_command : Asks
  writes_data : ℕ → Asks
  reads : Asked → ℕ → Asks
  finished : Reply → Asks

-- what a step tells, the bytes that it puts at the front of the output, and the record that it hands back
abbrev pub Step : Type 0
Step = Puts Asks UsbOperation

abbrev pub does : Told Asks → List ℕ → UsbOperation → Step
does told sent next = record { told = told; sent = sent; next = next }

-- "A refusal writes no lent buffer and changes no record"
abbrev pub stays : UsbOperation → ℕ → List ℕ → Step
stays op n values = does (refused n values) [] op

-- the caller's data is shorter than what is wanted of it
abbrev pub data_rule : ℕ → ℕ → Rule
data_rule lent wanted = lent_rule (ltb lent wanted)

-- "Command out, the first 31 output bytes, 24-30 zero"; 20
unfoldable pub command_step : UsbOperation → ℕ → Step
command_step op room =
    or_refuse (stays op) (room_rule room command_length ∷ []) (does (given writes_command) (command_out op) (commanded op))

-- "sector data below the transfer length, at its data step"
abbrev pub sector_step : UsbOperation → ℕ → Asks → Asked → Step
sector_step op lent asks asked =
    or_refuse (stays op) (data_rule lent (transfer_length op) ∷ []) (does (given asks) [] (turned op operation.CommandStatus asked))

-- the caller's data is written or read in its first transfer-length bytes, a reply into the in-band bytes
unfoldable pub io_step : IOBytes → UsbOperation → ℕ → Step
io_step io.Inband op lent = does (given (reads asked.Inband (inband_length op))) [] (turned op operation.CommandStatus asked.Inband)
io_step io.Read op lent = sector_step op lent (reads asked.Sectors (transfer_length op)) asked.Sectors
io_step io.Write op lent = sector_step op lent (writes_data (transfer_length op)) asked.Nothing

-- "status in, 13 bytes"
unfoldable pub status_step : UsbOperation → Step
status_step op = does (given (reads asked.Status status_size)) [] (turned op operation.Finish asked.Status)

-- the finish's answer, passed on
unfoldable pub finished_told : Told Reply → Told Asks
finished_told t = and_then t (λ reply. given (finished reply))

-- "After the finish the next step starts again at the command"; "a finish with 10-15 rearms the operation"
unfoldable pub finish_step : UsbOperation → Step
finish_step op =
    does (finished_told (finishes op.kind op.command.tag (transfer_length op) op.command_bytes op.«data»)) []
    (turned op operation.CommandBlock asked.Nothing)

-- the step of an operation that stands there, lent that many bytes of data and of output
unfoldable pub step_of : Operation → UsbOperation → ℕ → ℕ → Step
step_of operation.CommandBlock op lent room = command_step op room
step_of operation.IO op lent room = io_step (io_of op.kind) op lent
step_of operation.CommandStatus op lent room = status_step op
step_of operation.Finish op lent room = finish_step op

abbrev pub usb_step : UsbOperation → ℕ → ℕ → Step
usb_step op lent room = step_of op.next op lent room

abbrev pub step_error_number : StepError → ℕ
step_error_number (Failed error) = failure_number error
step_error_number OutputTooShort = too_short
step_error_number DataDiffers = differs

-- number and values of every answer
unfoldable pub step_told : Result UsbStep StepError → Beside → Told Asks
step_told (Ok step.WriteCommand) b = given writes_command
step_told (Ok (step.WriteData n)) b = given (writes_data n)
step_told (Ok (step.ReadInband n)) b = given (reads asked.Inband n)
step_told (Ok (step.ReadData n)) b = given (reads asked.Sectors n)
step_told (Ok (step.ReadStatus n)) b = given (reads asked.Status n)
step_told (Ok (step.Finished reply)) b = given (finished (reply_given reply b))
step_told (Err (Failed error)) b = failure_told error b.signature
step_told (Err OutputTooShort) b = refused too_short []
step_told (Err DataDiffers) b = refused differs []

unfoldable pub beside_asks : Asks → Beside
beside_asks writes_command = blank no_signature
beside_asks (writes_data n) = blank no_signature
beside_asks (reads a n) = blank no_signature
beside_asks (finished reply) = beside_of (given reply)

unfoldable pub beside_at : Told Asks → Beside
beside_at (given asks) = beside_asks asks
beside_at (refused n values) = beside_of (refused n values)

-- a step that answers r and leaves its output `after`, where it was `before`
pub record StepMeets (r : UsbStepped) (before after : List ℕ) (s : Step) : Type 0 where
  pub tells : step_told r.step r.beside ≡ s.told
  pub beside : r.beside ≡ beside_at s.told
  pub next : r.next ≡ s.next
  pub leaves : after ≡ front s.sent before

-- "A refusal writes no lent buffer and changes no record": nothing is sent, and the record stays
pub record Stays (op : UsbOperation) (s : Step) : Type 0 where
  pub sent : s.sent ≡ []
  pub next : s.next ≡ op
