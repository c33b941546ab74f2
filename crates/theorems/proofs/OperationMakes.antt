-- A run of an operation, at any end and budget, makes of a record that calls from a fresh start made another such record.
use Prim.Native.Nat.{ℕ, zero, suc}
use mathlib.Core.Path.{◌≡◌, refl, ap, sym, subst, ◌∙◌}
use mathlib.Core.Bool.{Bool, true, false}
use mathlib.Core.List.{List, [], ◌∷◌, ◌++◌}
use native.Mathlib.Omega.{arith}
use lib.ListN.{length, take, replicate}
use Rattle.promise.specs.Told.{Told, given, refused, and_then}
use Rattle.promise.specs.Rules.{pick, or_refuse}
use Rattle.promise.specs.Bytes.{AreBytes}
use Rattle.promise.specs.Run.{Turned, ends, goes, Ran, follow, runs}
use Rattle.promise.proofs.Outcome.{either_way}
use Rattle.protocol.specs.CommandBytes.{command_bytes}
use Rattle.protocol.specs.declared.CommandBlock.{CommandBlock}
use Rattle.mock_base.specs.declared.cells.Variety.{Variety}
use Rattle.mock_base.specs.declared.config.MockDeviceConfig.{MockDeviceConfig}
use Rattle.mock.specs.declared.device.MockState.{MockState}
use Rattle.mock.specs.Device.{write_bulk, read_bulk}
use Rattle.mock.specs.Made.{Made, writes, reads}
use Rattle.operation_finish.specs.Reply.{Reply}
use Rattle.operation_finish.specs.Finish.{finishes}
use Rattle.operation_finish.specs.declared.Kind.{Kind}
use Rattle.operation_finish.specs.declared.Kind.TheVariants as kind
use Rattle.operation.specs.declared.steps.Operation.{Operation}
use Rattle.operation.specs.declared.steps.Operation.TheVariants as operation
use Rattle.operation.specs.declared.steps.IOBytes.TheVariants as io
use Rattle.operation.specs.declared.steps.Asked.{Asked}
use Rattle.operation.specs.declared.steps.Asked.TheVariants as asked
use Rattle.operation.specs.declared.steps.UsbOperation.{UsbOperation}
use Rattle.operation.specs.Record.{io_of, transfer_length, inband_length, turned, command_out, commanded}
use Rattle.operation.specs.Step.{Asks, writes_data, Step, does, stays, data_rule, finished_told, command_step, io_step, status_step, finish_step, step_of}
use Rattle.operation.specs.Step as step
use Rattle.operation.proofs.Laws.{give_keeps}
use Rattle.operation_finish.specs.declared.Beside.{Beside}
use Rattle.run_turn.specs.declared.UsbTurned.{UsbTurned}
use Rattle.run_turn.specs.Turn.{UsbState, usb_state, is_write, onward, wrote, buffer_for, landed, giving, gives, received, got, transfers, after, lent_to, usb_turn}
use Rattle.run_turn.specs.Answers.{turn_told, LentMeets}
use Rattle.run_operation.specs.declared.UsbRun.{UsbRun}
use Rattle.run_operation.specs.Run.{run_rules, unstarted, usb_run}
use Rattle.run_operation.specs.Answers.{RunMeets}
use Rattle.theorems.proofs.CommandsAreBytes.{are_take}
use Rattle.std.specs.declared.ops.ControlFlow.{ControlFlow}
use Rattle.std.specs.declared.ops.ControlFlow.TheVariants.{Continue, Break}
use Rattle.std.specs.Prelude.{Result}
use Rattle.operation_finish.specs.declared.UsbReply.{UsbReply}
use Rattle.run_turn.specs.declared.StopError.{StopError}

-- an operation at such a device: its command goes out as bytes, and so does the data of a write
record Fit (v : Variety) (config : MockDeviceConfig) (n : ℕ) (s : UsbState) : Type 0 where
  made : Made v config n s.device
  command : AreBytes (command_out s.operation)
  lent : is_write s.operation.kind ≡ true → AreBytes s.«data»

module _ (v : Variety) (config : MockDeviceConfig) (n : ℕ) where
  abbrev Turns : Turned Reply UsbState → Type 0
  Turns (ends told s) = Fit v config n s
  Turns (goes s) = Fit v config n s

  onward_fit : (told : Told Unit) (s : UsbState) → Fit v config n s → Turns (onward told s)
  unfolding onward
  onward_fit (given done) s f = f
  onward_fit (refused number values) s f = f

  giving_fit : (s : UsbState) (bytes : List ℕ) (lent : ℕ) → Fit v config n s → Fit v config n (giving s bytes lent)
  giving_fit s bytes lent f =
      let k = give_keeps s.operation bytes lent in
      record {
        made = f.made;
        command = subst (λ (c : CommandBlock). AreBytes (command_bytes c ++ replicate 7 0)) (sym k.command) f.command;
        lent = λ w. f.lent (ap is_write (sym k.kind) ∙ w);
      }

  gives_fit : (a : Asked) (s : UsbState) (bytes : List ℕ) → Fit v config n s → Fit v config n (gives a s bytes)
  unfolding gives
  gives_fit asked.Nothing s bytes f = giving_fit s bytes 0 f
  gives_fit asked.Inband s bytes f = giving_fit s bytes 0 f
  gives_fit asked.Sectors s bytes f = giving_fit s [] (length s.«data») f
  gives_fit asked.Status s bytes f = giving_fit s bytes 0 f

  received_fit : (told : Told Unit) (a : Asked) (s : UsbState) (bytes : List ℕ) → Fit v config n s → Turns (received told a s bytes)
  unfolding received
  received_fit (given done) a s bytes f = gives_fit a s bytes f
  received_fit (refused number values) a s bytes f = f

  write_fit : (s : UsbState) (bytes : List ℕ) → Fit v config n s → AreBytes bytes → Turns (wrote s (write_bulk s.device s.flash bytes))
  write_fit s bytes f are =
      let w = write_bulk s.device s.flash bytes in
      onward_fit w.told (usb_state s.operation w.next w.leaves s.«data»)
      (record { made = writes s.device s.flash bytes f.made are; command = f.command; lent = f.lent })

  -- sectors are read by no write
  landed_fit : (a : Asked) (k : Kind) (bytes lent : List ℕ) → (a ≡ asked.Sectors → is_write k ≡ false) → (is_write k ≡ true → AreBytes lent)
      → is_write k ≡ true → AreBytes (landed a bytes lent)
  unfolding landed
  landed_fit asked.Nothing k bytes lent far are w = are w
  landed_fit asked.Inband k bytes lent far are w = are w
  landed_fit asked.Sectors k bytes lent far are w = let z : true ≡ false = sym w ∙ far refl in absurd (let x : ◌≡◌ {A = ℕ} 0 1 = cc in omega arith)
  landed_fit asked.Status k bytes lent far are w = are w

  read_fit : (s : UsbState) (a : Asked) (size : ℕ) → Fit v config n s → (a ≡ asked.Sectors → is_write s.operation.kind ≡ false)
      → Turns (got a s (read_bulk s.device s.flash (buffer_for a size s)))
  read_fit s a size f far =
      let r = read_bulk s.device s.flash (buffer_for a size s) in
      received_fit r.told a (usb_state s.operation r.next s.flash (landed a r.leaves s.«data»)) r.leaves
      (record {
        made = reads s.device s.flash (buffer_for a size s) f.made;
        command = f.command;
        lent = landed_fit a s.operation.kind r.leaves s.«data» far f.lent;
      })

  inband_not : asked.Inband ≡ asked.Sectors → ⊥
  inband_not e = let z : ◌≡◌ {A = ℕ} 0 1 = cc in omega arith

  status_not : asked.Status ≡ asked.Sectors → ⊥
  status_not e = let z : ◌≡◌ {A = ℕ} 0 1 = cc in omega arith

  module _ (s : UsbState) (f : Fit v config n s) where
    -- the operation as a step leaves it
    stepped_fit : (next : Operation) (a : Asked) → Fit v config n (usb_state (turned s.operation next a) s.device s.flash s.«data»)
    stepped_fit next a = record { made = f.made; command = f.command; lent = f.lent }

    inband_fit : Turns (after (io_step io.Inband s.operation (length s.«data»)) s)
    unfolding io_step transfers
    inband_fit =
        read_fit (usb_state (turned s.operation operation.CommandStatus asked.Inband) s.device s.flash s.«data») asked.Inband (inband_length s.operation)
        (stepped_fit operation.CommandStatus asked.Inband) (λ e. absurd (inband_not e))

    sectors_fit : (wants : Asks) (a : Asked)
        → Turns (transfers (given wants) [] (usb_state (turned s.operation operation.CommandStatus a) s.device s.flash s.«data»))
        → Turns (after (step.sector_step s.operation (length s.«data») wants a) s)
    unfolding transfers
    sectors_fit wants a turns =
        either_way (λ (x : Step). Turns (after x s)) (stays s.operation) (data_rule (length s.«data») (transfer_length s.operation) ∷ [])
        (does (given wants) [] (turned s.operation operation.CommandStatus a))
        (λ number values. record { made = f.made; command = f.command; lent = f.lent }) (λ met. turns)

    io_fit : (k : Kind) → s.operation.kind ≡ k → Turns (after (io_step (io_of k) s.operation (length s.«data»)) s)
    unfolding io_step transfers is_write
    io_fit kind.ChipInfo e = inband_fit
    io_fit kind.FlashId e = inband_fit
    io_fit kind.FlashInfo e = inband_fit
    io_fit kind.Capability e = inband_fit
    io_fit kind.Nothing e = inband_fit
    io_fit kind.Storage e = inband_fit
    io_fit kind.Read e =
        sectors_fit (step.reads asked.Sectors (transfer_length s.operation)) asked.Sectors
        (read_fit (usb_state (turned s.operation operation.CommandStatus asked.Sectors) s.device s.flash s.«data») asked.Sectors (transfer_length s.operation)
        (stepped_fit operation.CommandStatus asked.Sectors) (λ x. ap is_write e))
    io_fit kind.Write e =
        sectors_fit (writes_data (transfer_length s.operation)) asked.Nothing
        (write_fit (usb_state (turned s.operation operation.CommandStatus asked.Nothing) s.device s.flash s.«data») (take (transfer_length s.operation) s.«data»)
        (stepped_fit operation.CommandStatus asked.Nothing) (are_take (transfer_length s.operation) s.«data» (f.lent (ap is_write e))))

    finish_fit : (t : Told Reply)
        → Turns (transfers (finished_told t) [] (usb_state (turned s.operation operation.CommandBlock asked.Nothing) s.device s.flash s.«data»))
    unfolding transfers finished_told and_then
    finish_fit (given reply) = stepped_fit operation.CommandBlock asked.Nothing
    finish_fit (refused number values) = stepped_fit operation.CommandBlock asked.Nothing

    step_fit : (here : Operation) → Turns (after (step_of here s.operation (length s.«data») 31) s)
    unfolding step_of command_step or_refuse status_step finish_step transfers
    step_fit operation.CommandBlock =
        write_fit (usb_state (commanded s.operation) s.device s.flash s.«data») (command_out s.operation)
        (record { made = f.made; command = f.command; lent = f.lent }) f.command
    step_fit operation.IO = io_fit s.operation.kind refl
    step_fit operation.CommandStatus =
        read_fit (usb_state (turned s.operation operation.Finish asked.Status) s.device s.flash s.«data») asked.Status 13
        (stepped_fit operation.Finish asked.Status) (λ e. absurd (status_not e))
    step_fit operation.Finish =
        finish_fit (finishes s.operation.kind s.operation.command.tag (transfer_length s.operation) s.operation.command_bytes s.operation.«data»)

    turn_fit : Turns (usb_turn s)
    unfolding usb_turn
    turn_fit = step_fit s.operation.next

  follow_fit : (t : Turned Reply UsbState) (rest : UsbState → Ran Reply UsbState) → Turns t → ((next : UsbState) → Fit v config n next → Fit v config n (rest next).state)
      → Fit v config n (follow t rest).state
  unfolding follow
  follow_fit (ends told s) rest f on = f
  follow_fit (goes s) rest f on = on s f

  runs_fit : (budget : ℕ) (s : UsbState) → Fit v config n s → Fit v config n (runs usb_turn budget s).state
  unfolding runs
  runs_fit zero s f = f
  runs_fit (suc budget) s f = follow_fit (usb_turn s) (λ next. runs usb_turn budget next) (turn_fit s f) (λ next g. runs_fit budget next g)

  turned_fit : (t : ControlFlow (Result UsbReply StopError) Unit) (b : Beside) (s : UsbState) → Turns (turn_told t b s) → Fit v config n s
  unfolding turn_told
  turned_fit (Continue u) b s f = f
  turned_fit (Break stop) b s f = f

  -- over the contract of `take_turn`. What goes out is bytes, as it is for whoever has a record of these types
  pub turn_makes : (r : UsbTurned) (op : UsbOperation) (device : MockState) (flash source room left now : List ℕ) → Made v config n device
      → AreBytes (command_out op) → (is_write op.kind ≡ true → AreBytes source)
      → LentMeets r op.kind source room left now (usb_turn (usb_state op device flash (lent_to op.kind source room))) → Made v config n r.device
  turn_makes r op device flash source room left now made command lent m =
      let s = usb_state op device flash (lent_to op.kind source room) in
      let f : Fit v config n s =
      record { made = made; command = command; lent = λ w. subst (λ (b : Bool). AreBytes (pick b source room)) (sym w) (lent w) } in
      (turned_fit r.turn r.beside (usb_state r.operation r.device left (lent_to op.kind source now))
      (subst Turns (sym m.turns.tells) (turn_fit s f))).made

  -- what the definition of a run leaves
  pub run_leaves_made : (op : UsbOperation) (device : MockState) (flash bytes : List ℕ) (store budget : ℕ) → Made v config n device
      → AreBytes (command_out op) → (is_write op.kind ≡ true → AreBytes bytes)
      → Made v config n (usb_run (usb_state op device flash bytes) store budget).state.device
  unfolding usb_run
  run_leaves_made op device flash bytes store budget made command lent =
      let s = usb_state op device flash bytes in
      let f : Fit v config n s = record { made = made; command = command; lent = lent } in
      either_way (λ (w : Ran Reply UsbState). Made v config n w.state.device) (unstarted s) (run_rules s store) (runs usb_turn budget s)
      (λ number values. made) (λ met. (runs_fit budget s f).made)

  -- over the contract of `run`, and so of `run_whole`; with the data that `run_write` is lent, of that and of `run_whole_write`
  pub run_makes : (r : UsbRun) (op : UsbOperation) (device : MockState) (flash bytes left now : List ℕ) (store budget : ℕ) → Made v config n device
      → AreBytes (command_out op) → (is_write op.kind ≡ true → AreBytes bytes) → RunMeets r left now (usb_run (usb_state op device flash bytes) store budget)
      → Made v config n r.device
  run_makes r op device flash bytes left now store budget made command lent m =
      subst (λ (d : MockState). Made v config n d) (sym (ap (λ (t : UsbState). t.device) m.leaves))
      (run_leaves_made op device flash bytes store budget made command lent)
