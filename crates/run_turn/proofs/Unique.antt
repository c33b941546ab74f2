-- Two turns that the contract allows are equal: each is read off what it tells.
use Prim.Native.Nat.{ℕ}
use mathlib.Core.Path.{◌≡◌, refl, ap, ap₂, sym, ◌∙◌}
use mathlib.Core.Bool.{Bool, true, false}
use mathlib.Core.List.{List}
use lib.Dec.{eqb, ltb}
use lib.ListN.{get_or}
use Rattle.promise.specs.Told.{Told, given, refused, number}
use Rattle.promise.specs.Rules.{pick}
use Rattle.protocol_status.specs.Failure.{failure_number, failure_values, failure_told}
use Rattle.protocol_status.specs.declared.failure.UsbOperationError.TheVariants as failure
use Rattle.mock_base.specs.Told.{error_number, error_values, result_told}
use Rattle.mock_base.specs.declared.error.MockTransportError.{MockTransportError}
use Rattle.mock_base.specs.declared.error.MockTransportError.TheVariants as error
use Rattle.mock_base.proofs.Unique.{error_from, result_from, result_from_lem}
use Rattle.operation_finish.specs.Reply.{Reply, reply_given}
use Rattle.operation_finish.specs.declared.UsbReply.TheVariants as usb
use Rattle.operation_finish.specs.declared.Beside.{Beside}
use Rattle.operation_finish.specs.declared.Kind.{Kind}
use Rattle.operation_finish.proofs.Unique.{answer_of}
use Rattle.promise.specs.Run.{Turned, ends, goes}
use Rattle.run_turn.specs.declared.StopError.TheVariants as stop
use Rattle.run_turn.specs.declared.UsbTurned.{UsbTurned}
use Rattle.run_turn.specs.Turn.{UsbState, usb_state, is_write, lent_to}
use Rattle.rule_number.specs.Number.{number_of}
use Rattle.run_turn.specs.Answers.{stop_error_number, stop_told, turn_told, TurnMeets, LentMeets}
use Rattle.std.specs.Prelude.{Result}
use Rattle.std.specs.declared.result.Result.TheVariants.{Ok, Err}
use Rattle.operation_finish.specs.declared.UsbReply.{UsbReply}
use Rattle.protocol_status.specs.declared.failure.UsbOperationError.{UsbOperationError}
use Rattle.run_turn.specs.declared.StopError.{StopError}
use Rattle.std.specs.declared.ops.ControlFlow.{ControlFlow}
use Rattle.std.specs.declared.ops.ControlFlow.TheVariants.{Continue, Break}

-- the stop that tells this: 20, 27, 10 to 15, or the device's
abbrev device_for : ℕ → List ℕ → StopError
device_for n values = stop.Device (error_from n (get_or values 0 0) (get_or values 1 0) (get_or values 2 0))

abbrev failure_of : Result UsbReply UsbOperationError → StopError
failure_of (Ok reply) = stop.DataDiffers
failure_of (Err error) = stop.Failed error

abbrev replied_of : Result UsbReply UsbOperationError → Result UsbReply StopError
replied_of (Ok reply) = Ok reply
replied_of (Err error) = Err (stop.Failed error)

abbrev pub stop_for : Told Reply → Result UsbReply StopError
stop_for (given reply) = replied_of (answer_of (given reply))
stop_for (refused n values) =
    Err
    (pick (eqb n 20) stop.OutputTooShort
    (pick (eqb n 27) stop.DataDiffers
    (pick (ltb n 16) (failure_of (answer_of (refused n values))) (device_for n values))))

replied_for : (reply : UsbReply) (b : Beside) → stop_for (given (reply_given reply b)) ≡ Ok reply
unfolding reply_given
replied_for usb.ChipInfo b = refl
replied_for usb.FlashId b = refl
replied_for usb.FlashInfo b = refl
replied_for usb.Capability b = refl
replied_for usb.Nothing b = refl
replied_for (usb.Storage index) b = refl
replied_for (usb.Sectors transfer) b = refl

failed_for : (error : UsbOperationError) (g : List ℕ) → stop_for (failure_told error g) ≡ Err (stop.Failed error)
unfolding failure_number failure_values
failed_for failure.TagMismatch g = refl
failed_for failure.InvalidStatusSignature g = refl
failed_for (failure.InvalidStatusStatus byte) g = refl
failed_for failure.InvalidStatusLength g = refl
failed_for failure.ReplyParseFailure g = refl
failed_for failure.FailedStatus g = refl

-- a device's number is none of the others
device_for_lem : (e : MockTransportError) (g : List ℕ) → stop_for (refused (error_number e) (error_values e g)) ≡ Err (device_for (error_number e) (error_values e g))
device_for_lem (error.InvalidTransferLength expected actual) g = refl
device_for_lem (error.UnsupportedControl type request value) g = refl
device_for_lem (error.InvalidReset opcode) g = refl
device_for_lem (error.UnknownCommand code) g = refl
device_for_lem error.UnexpectedRead g = refl
device_for_lem error.UnexpectedWrite g = refl
device_for_lem (error.CommandBlockError e) g = refl
device_for_lem error.OutOfRange g = refl
device_for_lem error.NoSlot g = refl
device_for_lem error.SlotFull g = refl
device_for_lem (error.FlashSize n) g = refl
device_for_lem error.TooManySectors g = refl
device_for_lem error.ZeroBlockSize g = refl
device_for_lem error.UnalignedErase g = refl
device_for_lem error.StoreLength g = refl

abbrev error_in : Result Unit MockTransportError → MockTransportError
error_in (Ok u) = error.StoreLength
error_in (Err e) = e

error_back : (e : MockTransportError) (g : List ℕ) → device_for (error_number e) (error_values e g) ≡ stop.Device e
unfolding result_told result_from
error_back e g = ap (λ (r : Result Unit MockTransportError). stop.Device (error_in r)) (result_from_lem (Err e) g)

pub stop_for_lem : (x : Result UsbReply StopError) (b : Beside) → stop_for (stop_told x b) ≡ x
unfolding stop_told
stop_for_lem (Ok reply) b = replied_for reply b
stop_for_lem (Err (stop.Failed error)) b = failed_for error b.signature
stop_for_lem (Err (stop.Device e)) b = device_for_lem e b.signature ∙ ap Err (error_back e b.signature)
stop_for_lem (Err stop.OutputTooShort) b = refl
stop_for_lem (Err stop.DataDiffers) b = refl

abbrev turn_for : Turned Reply UsbState → (ControlFlow (Result UsbReply StopError) Unit)
turn_for (goes s) = (Continue tt)
turn_for (ends told s) = Break (stop_for told)

abbrev pub state_in : Turned Reply UsbState → UsbState
state_in (goes s) = s
state_in (ends told s) = s

turn_for_lem : (t : ControlFlow (Result UsbReply StopError) Unit) (b : Beside) (s : UsbState) → turn_for (turn_told t b s) ≡ t
unfolding turn_told
turn_for_lem (Continue u) b s = refl
turn_for_lem (Break x) b s = ap Break (stop_for_lem x b)

pub state_in_lem : (t : ControlFlow (Result UsbReply StopError) Unit) (b : Beside) (s : UsbState) → state_in (turn_told t b s) ≡ s
unfolding turn_told
state_in_lem (Continue u) b s = refl
state_in_lem (Break x) b s = refl

-- answer, flash and the caller's data
same_turn : (r s : UsbTurned) (flash₁ flash₂ bytes₁ bytes₂ : List ℕ) (t : Turned Reply UsbState) → TurnMeets r flash₁ bytes₁ t → TurnMeets s flash₂ bytes₂ t
    → (r ≡ s) × (flash₁ ≡ flash₂) × (bytes₁ ≡ bytes₂)
same_turn r s flash₁ flash₂ bytes₁ bytes₂ t p q =
    let left = usb_state r.operation r.device flash₁ bytes₁ in
    let right = usb_state s.operation s.device flash₂ bytes₂ in
    let told : turn_told r.turn r.beside left ≡ turn_told s.turn s.beside right = p.tells ∙ sym q.tells in
    let turns : r.turn ≡ s.turn = sym (turn_for_lem r.turn r.beside left) ∙ ap turn_for told ∙ turn_for_lem s.turn s.beside right in
    let states : left ≡ right = sym (state_in_lem r.turn r.beside left) ∙ ap state_in told ∙ state_in_lem s.turn s.beside right in
    let first : ◌≡◌ {A = UsbTurned} r (record { turn = s.turn; beside = s.beside; operation = r.operation; device = r.device }) =
    ap₂ (λ (x : ControlFlow (Result UsbReply StopError) Unit) (b : Beside). record { turn = x; beside = b; operation = r.operation; device = r.device }) turns (p.beside ∙ sym q.beside) in (
      first ∙ ap (λ (z : UsbState). record { turn = s.turn; beside = s.beside; operation = z.operation; device = z.device }) states,
      ap (λ (z : UsbState). z.flash) states,
      ap (λ (z : UsbState). z.«data») states,
    )

-- of what is lent to read into, and so of what is left of it, the kind says which of the two equations holds
room_same : (w : Bool) (source room room₁ room₂ : List ℕ) → (w ≡ true → room₁ ≡ room) → (w ≡ true → room₂ ≡ room)
    → pick w source room₁ ≡ pick w source room₂ → room₁ ≡ room₂
room_same true source room room₁ room₂ first second e = first refl ∙ sym (second refl)
room_same false source room room₁ room₂ first second e = e

pub turn_unique : (r s : UsbTurned) (kind : Kind) (source room flash₁ flash₂ room₁ room₂ : List ℕ) (t : Turned Reply UsbState)
    → LentMeets r kind source room flash₁ room₁ t → LentMeets s kind source room flash₂ room₂ t
    → (r ≡ s) × (flash₁ ≡ flash₂) × (room₁ ≡ room₂)
turn_unique r s kind source room flash₁ flash₂ room₁ room₂ t p q =
    let same = same_turn r s flash₁ flash₂ (lent_to kind source room₁) (lent_to kind source room₂) t p.turns q.turns in
    (same.0, same.1, room_same (is_write kind) source room room₁ room₂ p.spare q.spare same.2)

-- the number of an answer is the number of what it tells
pub stop_number : (r : Result UsbReply StopError) (b : Beside) → number (stop_told r b) ≡ number_of stop_error_number r
unfolding number stop_told
stop_number (Ok reply) b = refl
stop_number (Err (stop.Failed error)) b = refl
stop_number (Err (stop.Device error)) b = refl
stop_number (Err stop.OutputTooShort) b = refl
stop_number (Err stop.DataDiffers) b = refl
