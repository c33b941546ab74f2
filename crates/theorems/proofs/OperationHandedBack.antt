-- The operation that a turn or a run hands back, at any end and budget, is one that calls from its start can make: a turn is a step, and maybe a
-- giving.
use Prim.Native.Nat.{ℕ, zero, suc, ◌<◌}
use mathlib.Core.Path.{◌≡◌, ap, sym, subst}
use mathlib.Core.Bool.{true}
use mathlib.Core.List.{List, []}
use lib.ListN.{length}
use Rattle.promise.specs.Told.{Told, given, refused}
use Rattle.promise.specs.Bytes.{AreBytes}
use Rattle.promise.specs.Run.{Turned, ends, goes, Ran, follow, runs}
use Rattle.promise.proofs.Outcome.{either_way}
use Rattle.operation_finish.specs.Reply.{Reply}
use Rattle.operation_finish.specs.declared.Beside.{Beside}
use Rattle.mock_base.specs.declared.cells.Variety.{Variety}
use Rattle.mock_base.specs.declared.config.MockDeviceConfig.{MockDeviceConfig}
use Rattle.mock.specs.declared.device.MockState.{MockState}
use Rattle.mock.specs.Device.{read_bulk}
use Rattle.mock.specs.Made as mock
use Rattle.operation.specs.declared.steps.Asked.{Asked}
use Rattle.operation.specs.declared.steps.Asked.TheVariants as asked
use Rattle.operation.specs.declared.steps.UsbOperation.{UsbOperation}
use Rattle.operation.specs.Step.{Asks, writes_command, writes_data, reads, finished, usb_step}
use Rattle.operation.specs.Made.{Made}
use Rattle.run_turn.specs.declared.UsbTurned.{UsbTurned}
use Rattle.run_turn.specs.Turn.{UsbState, usb_state, onward, buffer_for, landed, gives, received, transfers, is_write, lent_to, usb_turn}
use Rattle.run_turn.specs.Answers.{turn_told, LentMeets}
use Rattle.run_operation.specs.declared.UsbRun.{UsbRun}
use Rattle.run_operation.specs.Run.{run_rules, unstarted, usb_run}
use Rattle.run_operation.specs.Answers.{RunMeets}
use Rattle.theorems.proofs.OperationAnswered.{step_made, give_made}
use Rattle.theorems.proofs.CommandsAreBytes.{made_goes_out_as_bytes}
use Rattle.theorems.proofs.OperationMakes.{turn_makes, run_makes}
use Rattle.std.specs.declared.ops.ControlFlow.{ControlFlow}
use Rattle.std.specs.declared.ops.ControlFlow.TheVariants.{Continue, Break}
use Rattle.std.specs.Prelude.{Result}
use Rattle.operation_finish.specs.declared.UsbReply.{UsbReply}
use Rattle.run_turn.specs.declared.StopError.{StopError}

-- what holds of the state that a turn leaves, whether it is the last or not
abbrev Leaves : (UsbState → Type 0) → Turned Reply UsbState → Type 0
Leaves P (ends told s) = P s
Leaves P (goes s) = P s

left_by_turn : (P : UsbState → Type 0) (t : ControlFlow (Result UsbReply StopError) Unit) (b : Beside) (s : UsbState) → Leaves P (turn_told t b s) → P s
unfolding turn_told
left_by_turn P (Continue u) b s p = p
left_by_turn P (Break stop) b s p = p

module _ (start : UsbOperation) where
  abbrev Stays : UsbState → Type 0
  Stays s = Made start s.operation

  onward_stays : (told : Told Unit) (s : UsbState) → Stays s → Leaves Stays (onward told s)
  unfolding onward
  onward_stays (given done) s made = made
  onward_stays (refused number values) s made = made

  gives_stays : (a : Asked) (s : UsbState) (bytes : List ℕ) → Stays s → Stays (gives a s bytes)
  unfolding gives
  gives_stays asked.Nothing s bytes made = give_made start s.operation made bytes 0
  gives_stays asked.Inband s bytes made = give_made start s.operation made bytes 0
  gives_stays asked.Sectors s bytes made = give_made start s.operation made [] (length s.«data»)
  gives_stays asked.Status s bytes made = give_made start s.operation made bytes 0

  received_stays : (told : Told Unit) (a : Asked) (s : UsbState) (bytes : List ℕ) → Stays s → Leaves Stays (received told a s bytes)
  unfolding received
  received_stays (given done) a s bytes made = gives_stays a s bytes made
  received_stays (refused number values) a s bytes made = made

  transfers_stay : (told : Told Asks) (sent : List ℕ) (s : UsbState) → Stays s → Leaves Stays (transfers told sent s)
  unfolding transfers
  transfers_stay (given writes_command) sent s made = onward_stays _ _ made
  transfers_stay (given (writes_data n)) sent s made = onward_stays _ _ made
  transfers_stay (given (reads a n)) sent s made =
      let r = read_bulk s.device s.flash (buffer_for a n s) in
      received_stays r.told a (usb_state s.operation r.next s.flash (landed a r.leaves s.«data»)) r.leaves made
  transfers_stay (given (finished reply)) sent s made = made
  transfers_stay (refused number values) sent s made = made

  turn_stays : (s : UsbState) → Stays s → Leaves Stays (usb_turn s)
  unfolding usb_turn
  turn_stays s made =
      let step = usb_step s.operation (length s.«data») 31 in
      transfers_stay step.told step.sent (usb_state step.next s.device s.flash s.«data») (step_made start s.operation made s.«data» 31)

  follow_stays : (t : Turned Reply UsbState) (rest : UsbState → Ran Reply UsbState) → Leaves Stays t → ((next : UsbState) → Stays next → Stays (rest next).state)
      → Stays (follow t rest).state
  unfolding follow
  follow_stays (ends told s) rest made on = made
  follow_stays (goes s) rest made on = on s made

  runs_stay : (budget : ℕ) (s : UsbState) → Stays s → Stays (runs usb_turn budget s).state
  unfolding runs
  runs_stay zero s made = made
  runs_stay (suc budget) s made = follow_stays (usb_turn s) (λ next. runs usb_turn budget next) (turn_stays s made) (λ next on. runs_stay budget next on)

  -- over the contract of `take_turn`
  pub turn_hands_back_made : (r : UsbTurned) (op : UsbOperation) (device : MockState) (flash source room left now : List ℕ) → Made start op
      → LentMeets r op.kind source room left now (usb_turn (usb_state op device flash (lent_to op.kind source room))) → Made start r.operation
  turn_hands_back_made r op device flash source room left now made m =
      left_by_turn Stays r.turn r.beside (usb_state r.operation r.device left (lent_to op.kind source now))
      (subst (Leaves Stays) (sym m.turns.tells) (turn_stays (usb_state op device flash (lent_to op.kind source room)) made))

  -- over the contract of `run`, and so of `run_whole`; with the data that `run_write` is lent, of that and of `run_whole_write`
  pub run_hands_back_made : (r : UsbRun) (op : UsbOperation) (device : MockState) (flash bytes left now : List ℕ) (store budget : ℕ) → Made start op
      → RunMeets r left now (usb_run (usb_state op device flash bytes) store budget) → Made start r.operation
  unfolding usb_run
  run_hands_back_made r op device flash bytes left now store budget made m =
      let s = usb_state op device flash bytes in
      subst (λ (o : UsbOperation). Made start o) (sym (ap (λ (t : UsbState). t.operation) m.leaves))
      (either_way (λ (w : Ran Reply UsbState). Stays w.state) (unstarted s) (run_rules s store) (runs usb_turn budget s)
      (λ number values. made) (λ met. runs_stay budget s made))

-- An operation and a device that calls from fresh starts made: of what is lent no more is asked than its type gives, and an opcode is a byte
module _ (v : Variety) (config : MockDeviceConfig) (n : ℕ) (start op : UsbOperation) (device : MockState) (made : Made start op) (byte : op.command.cd_opcode < 256)
    (there : mock.Made v config n device) where
  pub turn_hands_both_back_made : (r : UsbTurned) (flash source room left now : List ℕ) → (is_write op.kind ≡ true → AreBytes source)
      → LentMeets r op.kind source room left now (usb_turn (usb_state op device flash (lent_to op.kind source room)))
      → Made start r.operation × mock.Made v config n r.device
  turn_hands_both_back_made r flash source room left now lent m = (
    turn_hands_back_made start r op device flash source room left now made m,
    turn_makes v config n r op device flash source room left now there (made_goes_out_as_bytes start op made byte) lent m,
  )

  pub run_hands_both_back_made : (r : UsbRun) (flash bytes left now : List ℕ) (store budget : ℕ) → (is_write op.kind ≡ true → AreBytes bytes)
      → RunMeets r left now (usb_run (usb_state op device flash bytes) store budget) → Made start r.operation × mock.Made v config n r.device
  run_hands_both_back_made r flash bytes left now store budget lent m = (
    run_hands_back_made start r op device flash bytes left now store budget made m,
    run_makes v config n r op device flash bytes left now store budget there (made_goes_out_as_bytes start op made byte) lent m,
  )
