-- Number and values of what a run stops with, and what stands beside the answer.
use Rattle.std.specs.Prelude.{ℕ, ◌≡◌, true, List, [], eqb}
use Rattle.promise.specs.Told.{Told, given, refused}
use Rattle.promise.specs.Rules.{pick, differs, too_short}
use Rattle.protocol_bytes.specs.Signature.{no_signature}
use Rattle.protocol_status.specs.Failure.{failure_number, failure_told}
use Rattle.mock_base.specs.Told.{error_number, error_told, signature_beside}
use Rattle.operation_finish.specs.Reply.{Reply, reply_given, blank, bad_signature, beside_reply}
use Rattle.operation_finish.specs.declared.Beside.{Beside}
use Rattle.operation_finish.specs.declared.Kind.{Kind}
use Rattle.promise.specs.Run.{Turned, ends, goes}
use Rattle.run_turn.specs.declared.StopError.TheVariants as stop
use Rattle.run_turn.specs.declared.UsbTurned.{UsbTurned}
use Rattle.run_turn.specs.Turn.{UsbState, usb_state, is_write, lent_to}
use Rattle.std.specs.Prelude.{Result}
use Rattle.operation_finish.specs.declared.UsbReply.{UsbReply}
use Rattle.run_turn.specs.declared.StopError.{StopError}
use Rattle.std.specs.declared.result.Result.TheVariants.{Ok, Err}
use Rattle.std.specs.declared.ops.ControlFlow.{ControlFlow}
use Rattle.std.specs.declared.ops.ControlFlow.TheVariants.{Continue, Break}

abbrev pub stop_error_number : StopError → ℕ
stop_error_number (stop.Failed error) = failure_number error
stop_error_number (stop.Device error) = error_number error
stop_error_number stop.OutputTooShort = too_short
stop_error_number stop.DataDiffers = differs

-- the operation's value or its failure, the device's refusal, or a step's
unfoldable pub stop_told : Result UsbReply StopError → Beside → Told Reply
stop_told (Ok reply) b = given (reply_given reply b)
stop_told (Err (stop.Failed error)) b = failure_told error b.signature
stop_told (Err (stop.Device error)) b = error_told error b.signature
stop_told (Err stop.OutputTooShort) b = refused too_short []
stop_told (Err stop.DataDiffers) b = refused differs []

-- the signature that 11 tells or that 56 does; zeros everywhere else
unfoldable pub signature_told : ℕ → List ℕ → List ℕ
signature_told number values = pick (eqb number bad_signature) values (signature_beside (refused number values))

unfoldable pub beside_told : Told Reply → Beside
beside_told (given reply) = beside_reply reply
beside_told (refused number values) = blank (signature_told number values)

unfoldable pub turn_told : ControlFlow (Result UsbReply StopError) Unit → Beside → UsbState → Turned Reply UsbState
turn_told (Continue u) b s = goes s
turn_told (Break stop) b s = ends (stop_told stop b) s

unfoldable pub beside_turned : Turned Reply UsbState → Beside
beside_turned (goes s) = blank no_signature
beside_turned (ends told s) = beside_told told

-- a turn that answers r, and leaves the flash and the caller's data so
pub record TurnMeets (r : UsbTurned) (flash bytes : List ℕ) (t : Turned Reply UsbState) : Type 0 where
  pub tells : turn_told r.turn r.beside (usb_state r.operation r.device flash bytes) ≡ t
  pub beside : r.beside ≡ beside_turned t

-- a turn of an operation of this kind, lent `source` to write from and `room` to read into, that answers r and leaves the flash and `room` so: of the
-- two one is the caller's data, and a `room` that is not stays as it was
pub record LentMeets (r : UsbTurned) (kind : Kind) (source room flash Room-after : List ℕ) (t : Turned Reply UsbState) : Type 0 where
  pub turns : TurnMeets r flash (lent_to kind source Room-after) t
  pub spare : is_write kind ≡ true → Room-after ≡ room
