-- Programs that the contracts rule out, each at a named input: no proof of any kind can exist for them.
use Prim.Native.Nat.{ℕ, ◌≤◌}
use mathlib.Core.Path.{◌≡◌, refl, ap, sym, ◌∙◌}
use mathlib.Core.Bool.{Bool, true, false}
use mathlib.Core.List.{List, [], ◌∷◌}
use native.Mathlib.Omega.{arith}
use lib.ListN.{get_or}
use Rattle.promise.specs.Told.{Told, given, refused, number, and_then}
use Rattle.promise.specs.Rules.{or_refuse}
use Rattle.protocol.specs.Commands.{read_lba_command}
use Rattle.protocol.specs.declared.CommandBlock.{CommandBlock}
use Rattle.mock_base.specs.declared.error.MockTransportError.TheVariants as error
use Rattle.operation_finish.specs.declared.Beside.{Beside}
use Rattle.operation_finish.specs.declared.Kind.TheVariants as kind
use Rattle.operation_finish.specs.declared.UsbReply.{UsbReply}
use Rattle.operation_finish.specs.Reply.{Reply, finish_told}
use Rattle.operation_finish.specs.Finish.{finishes}
use Rattle.operation.specs.declared.steps.Operation.TheVariants as operation
use Rattle.operation.specs.declared.steps.Asked.TheVariants as asked
use Rattle.operation.specs.declared.steps.UsbOperation.{UsbOperation}
use Rattle.operation.specs.Record.{fresh, transfer_length, turned}
use Rattle.operation.specs.Step.{finished_told, step_of, finish_step, io_step}
use Rattle.mock.specs.declared.device.MockState.{MockState}
use Rattle.promise.specs.Run.{ends}
use Rattle.run_turn.specs.declared.StopError.TheVariants as stop
use Rattle.run_turn.specs.declared.UsbTurned.{UsbTurned}
use Rattle.run_turn.specs.Turn.{UsbState, usb_state, transfers, is_write, usb_turn}
use Rattle.run_turn.specs.Answers.{stop_told, turn_told, TurnMeets, LentMeets}
use Rattle.run_turn.proofs.Unique.{state_in, state_in_lem}
use Rattle.std.specs.declared.result.Result.TheVariants.{Ok, Err}
use Rattle.std.specs.Prelude.{Result}
use Rattle.run_turn.specs.declared.StopError.{StopError}
use Rattle.std.specs.declared.ops.ControlFlow.{ControlFlow}
use Rattle.std.specs.declared.ops.ControlFlow.TheVariants.{Continue, Break}

-- whatever a finish tells, the turn ends with it
finish_ends : (t : Told Reply) (sent : List ℕ) (s : UsbState) → transfers (finished_told t) sent s ≡ ends t s
unfolding transfers finished_told and_then
finish_ends (given reply) sent s = refl
finish_ends (refused n values) sent s = refl

-- an operation at its finish, whatever was received, and one at the data of a sector
abbrev pub at_finish : UsbOperation → UsbOperation
at_finish op = turned op operation.Finish asked.Nothing

abbrev of_sector : UsbOperation
of_sector = turned (fresh kind.Read (read_lba_command 7 0 1)) operation.IO asked.Nothing

abbrev pub rearmed : UsbOperation → UsbOperation
rearmed op = turned op operation.CommandBlock asked.Nothing

abbrev pub told_at : UsbOperation → Told Reply
told_at op = finishes op.kind op.command.tag (transfer_length op) op.command_bytes op.«data»

module _ (op : UsbOperation) (device : MockState) (flash bytes : List ℕ) where
  pub turn_ends : usb_turn (usb_state (at_finish op) device flash bytes) ≡ ends (told_at op) (usb_state (rearmed op) device flash bytes)
  unfolding usb_turn step_of finish_step
  turn_ends = finish_ends (told_at op) [] (usb_state (rearmed op) device flash bytes)

  turn_differs : usb_turn (usb_state of_sector device flash []) ≡ ends (refused 27 []) (usb_state of_sector device flash [])
  unfolding usb_turn transfers step_of io_step or_refuse
  turn_differs = refl

  module _ (r : UsbTurned) (flash-now bytes-now : List ℕ) where
    -- a turn that goes on for ever
    pub never_ending : TurnMeets r flash-now bytes-now (usb_turn (usb_state (at_finish op) device flash bytes)) → r.turn ≡ (Continue tt) → ⊥
    unfolding turn_told
    never_ending meets e =
        let s = usb_state r.operation r.device flash-now bytes-now in
        let clash : turn_told (Continue tt) r.beside s ≡ ends (told_at op) (usb_state (rearmed op) device flash bytes) =
        ap (λ (t : ControlFlow (Result UsbReply StopError) Unit). turn_told t r.beside s) (sym e) ∙ meets.tells ∙ turn_ends in
        let z : ◌≡◌ {A = ℕ} 0 1 = cc in omega arith

    -- an operation that stays where it stood
    pub step_not_kept : TurnMeets r flash-now bytes-now (usb_turn (usb_state (at_finish op) device flash bytes)) → r.operation ≡ at_finish op → ⊥
    step_not_kept meets e =
        let s = usb_state r.operation r.device flash-now bytes-now in
        let states : s ≡ usb_state (rearmed op) device flash bytes = sym (state_in_lem r.turn r.beside s) ∙ ap state_in (meets.tells ∙ turn_ends) in
        let stood : operation.Finish ≡ operation.CommandBlock = ap (λ (o : UsbOperation). o.next) (sym e) ∙ ap (λ (x : UsbState). x.operation.next) states in
        let z : ◌≡◌ {A = ℕ} 0 1 = cc in omega arith

    -- a turn that calls 27 a 20
    pub one_refusal_for_another : TurnMeets r flash-now bytes-now (usb_turn (usb_state of_sector device flash [])) → r.turn ≡ Break (Err stop.OutputTooShort) → ⊥
    unfolding turn_told stop_told
    one_refusal_for_another meets e =
        let s = usb_state r.operation r.device flash-now bytes-now in
        let clash : turn_told (Break (Err stop.OutputTooShort)) r.beside s ≡ ends (refused 27 []) (usb_state of_sector device flash []) =
        ap (λ (t : ControlFlow (Result UsbReply StopError) Unit). turn_told t r.beside s) (sym e) ∙ meets.tells ∙ turn_differs in
        let z : ◌≡◌ {A = ℕ} 20 27 = cc in omega arith

-- a turn that writes over what a write is lent to read into, whatever it does elsewhere
pub room_scribbled : (r : UsbTurned) (command : CommandBlock) (device : MockState) (source flash flash-now : List ℕ) (byte other : ℕ) → (other ≡ byte → ⊥)
    → LentMeets r kind.Write source (byte ∷ []) flash-now (other ∷ []) (usb_turn (usb_state (fresh kind.Write command) device flash source)) → ⊥
unfolding is_write
room_scribbled r command device source flash flash-now byte other differ meets =
    differ (ap (λ (l : List ℕ). get_or l 0 0) (meets.spare refl))

-- a read taken for a write
pub reading_taken_for_writing : (r : Bool) → r ≡ is_write kind.Read → r ≡ true → ⊥
unfolding is_write
reading_taken_for_writing r e f = let same : true ≡ false = sym f ∙ e in let z : ◌≡◌ {A = ℕ} 0 1 = cc in omega arith

-- a write taken for none
pub never_writing : (r : Bool) → r ≡ is_write kind.Write → r ≡ false → ⊥
unfolding is_write
never_writing r e f = let same : true ≡ false = sym e ∙ f in let z : ◌≡◌ {A = ℕ} 0 1 = cc in omega arith

-- one number for every stop
pub one_number_for_all : (n : ℕ) (b : Beside) → n ≡ number (stop_told (Err stop.OutputTooShort) b) → n ≡ number (stop_told (Err (stop.Device error.StoreLength)) b) → ⊥
unfolding number stop_told
one_number_for_all n b e f = omega arith

-- the operation's value told as a refusal
pub value_a_refusal : (n : ℕ) (reply : UsbReply) (b : Beside) → n ≡ number (stop_told (Ok reply) b) → 1 ≤ n → ⊥
unfolding number stop_told finish_told
value_a_refusal n reply b e f = omega arith
