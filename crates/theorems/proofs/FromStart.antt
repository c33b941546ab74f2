-- An operation from its start, at a device with no transaction: its command is taken as the block that it is, and the table's turn for it decides how
-- the run goes on.
use Prim.Native.Nat.{ℕ, ◌≤◌}
use mathlib.Core.Path.{◌≡◌, refl, ap, sym, ◌∙◌}
use mathlib.Core.List.{List}
use native.Mathlib.Omega.{arith}
use lib.ListN.{length, replicate}
use borrow.Author.Tests.{eq-eqb, ne_eqb}
use Rattle.promise.specs.Told.{Told, given, refused}
use Rattle.promise.specs.Rules.{or_refuse}
use Rattle.protocol.specs.declared.CommandBlock.{CommandBlock}
use Rattle.protocol.proofs.Trips.{reads_back}
use Rattle.operation_finish.specs.Reply.{Reply}
use Rattle.operation_finish.specs.Finish.{reply_of}
use Rattle.operation_finish.specs.declared.Kind.{Kind}
use Rattle.operation.specs.declared.steps.Operation.TheVariants as operation
use Rattle.operation.specs.Record.{fresh, after_command, command_out, commanded}
use Rattle.operation.specs.Step.{command_step, step_of}
use Rattle.mock_base.specs.Flash.{flash_sectors}
use Rattle.mock_table.specs.Turn.{Turn, session, done}
use Rattle.mock_table.specs.Table.{start_turn, write_row}
use Rattle.mock_table.specs.declared.session.CommandState.TheVariants.{None, IO, Status}
use Rattle.mock_table.specs.declared.outcome.Effect.{Effect}
use Rattle.mock_table.specs.declared.outcome.Effect.TheVariants.{Nothing}
use Rattle.mock_effects.specs.Effects.{flash_after, pending_after}
use Rattle.mock_effects.specs.Steps.{pend}
use Rattle.protocol_codes.specs.declared.Status as status
use Rattle.protocol_codes.specs.declared.Status.TheVariants.{SUCCESS}
use Rattle.mock_base.specs.declared.cells.Variety.{Variety}
use Rattle.mock.specs.declared.device.MockState.{MockState}
use Rattle.mock.specs.Device.{Call, session_of, with_session, write_bulk}
use Rattle.mock_effects.proofs.Frames.{write_long}
use Rattle.promise.specs.Run.{tells, Ran, ran, counted, follow, runs}
use Rattle.run_turn.specs.Turn.{UsbState, usb_state, onward, wrote, transfers, usb_turn}
use Rattle.run_operation.specs.Run.{sector_data, whole_budget}
use Rattle.run_operation.proofs.Checks.{unrefused}
use Rattle.theorems.specs.Standing.{Standing}
use Rattle.theorems.specs.Told.{by_status}
use Rattle.theorems.proofs.CallsByTurn.{as_call, applied, writes_as}
use Rattle.theorems.proofs.FromStatus.{answered_whole}
use Rattle.theorems.specs.Runs.{operation_run, rearmed}
use Rattle.protocol.specs.CommandBytes.{BlockFits}
use Rattle.std.specs.Prelude.{Option}
use Rattle.protocol_codes.specs.declared.ResetOpcode.{ResetOpcode}

-- the state once its command is out and the device awaits its data
abbrev pub awaiting : Kind → CommandBlock → MockState → List ℕ → List ℕ → UsbState
awaiting k c device flash bytes = usb_state (commanded (fresh k c)) (with_session device (session (IO c) device.last_reset)) flash bytes

-- a flash that a write leaves is as long as it was
pub long_left : (device : MockState) (flash lent : List ℕ) (t : Turn) (leaves : List ℕ) → write_bulk device flash lent ≡ as_call device t leaves → length leaves ≡ length flash
unfolding write_bulk
long_left device flash lent t leaves e =
    ap (λ (c : Call). length c.leaves) (sym e) ∙ write_long device.variety device.config.block_size_sectors (session_of device) flash lent

module _ (k : Kind) (c : CommandBlock) (v : Variety) (device : MockState) (flash bytes : List ℕ) (store sectors : ℕ) (stands : Standing v device flash store sectors)
    (fits : BlockFits c) (enough : sector_data k c.transfer_length ≤ length bytes) where
  abbrev block : ℕ
  block = device.config.block_size_sectors

  -- the state once the command is out, the device's turn being t
  abbrev commanded_by : Turn → UsbState
  commanded_by t = usb_state (commanded (fresh k c)) (with_session device (applied t (command_out (fresh k c)) flash).next) (flash_after t.effect (command_out (fresh k c)) flash) bytes

  module _ (t : Turn) (first : start_turn device.variety block (given c) device.last_reset sectors ≡ t) where
    taken : write_bulk device flash (command_out (fresh k c)) ≡ as_call device (applied t (command_out (fresh k c)) flash) (flash_after t.effect (command_out (fresh k c)) flash)
    unfolding write_row
    taken =
        writes_as device flash (command_out (fresh k c)) sectors None t stands.legal stands.none
        (ap (λ (x : Told CommandBlock). start_turn device.variety block x device.last_reset sectors) (reads_back c (replicate 7 0) fits (omega arith)) ∙ first)

    begun : operation_run k c device flash bytes store ≡ follow (onward t.told (commanded_by t)) (λ next. runs usb_turn 3 next)
    unfolding runs usb_turn step_of command_step or_refuse transfers
    begun =
        unrefused (usb_state (fresh k c) device flash bytes) store whole_budget sectors stands.legal stands.stored enough
        ∙ ap (λ (w : Call). follow (wrote (usb_state (commanded (fresh k c)) device flash bytes) w) (λ next. runs usb_turn 3 next)) taken

    -- a command that is refused at once: one step, and nothing is sent behind it
    pub refused_at_once_whole : (number : ℕ) (values : List ℕ) → t.told ≡ refused number values
        → operation_run k c device flash bytes store ≡ ran (tells (refused number values)) 1 (commanded_by t)
    unfolding follow onward
    refused_at_once_whole number values e = begun ∙ ap (λ (x : Told Unit). follow (onward x (commanded_by t)) (λ next. runs usb_turn 3 next)) e

    pub refused_at_once : (number : ℕ) (values : List ℕ) → t.told ≡ refused number values → (operation_run k c device flash bytes store).end ≡ tells (refused number values)
    refused_at_once number values e = ap (λ (r : Ran Reply UsbState). r.end) (refused_at_once_whole number values e)

  -- a command with no data that is done at once, and whose effect does not fail
  pub done_at_once_whole : (pending : status.Status) (reset : Option ResetOpcode) (effect : Effect) → c.transfer_length ≡ 0
      → start_turn device.variety block (given c) device.last_reset sectors ≡ done (Status c pending) reset effect
      → pending_after effect (command_out (fresh k c)) flash ≡ SUCCESS
      → operation_run k c device flash bytes store
      ≡ ran (tells (by_status pending (reply_of k c.transfer_length 0 (replicate 16 0)))) 3
      (rearmed (commanded_by (done (Status c pending) reset effect)) c.tag pending)
  unfolding follow onward done after_command pend
  done_at_once_whole pending reset effect empty first taken-all =
      let t = done (Status c pending) reset effect in
      let waits : pend (pending_after effect (command_out (fresh k c)) flash) (Status c pending) ≡ Status c pending =
      ap (λ (p : status.Status). pend p (Status c pending)) taken-all in
      let here : after_command c.transfer_length ≡ operation.CommandStatus = rw (eq-eqb c.transfer_length 0 empty) in
      begun t first
      ∙ ap (counted 1) (answered_whole (commanded_by t) c pending sectors (ap flash_sectors (long_left device flash (command_out (fresh k c)) (applied t (command_out (fresh k c)) flash) (flash_after effect (command_out (fresh k c)) flash) (taken t first)) ∙ stands.legal)
      here waits refl fits.tag 1)

  pub done_at_once : (pending : status.Status) (reset : Option ResetOpcode) (effect : Effect) → c.transfer_length ≡ 0
      → start_turn device.variety block (given c) device.last_reset sectors ≡ done (Status c pending) reset effect
      → pending_after effect (command_out (fresh k c)) flash ≡ SUCCESS
      → (operation_run k c device flash bytes store).end ≡ tells (by_status pending (reply_of k c.transfer_length 0 (replicate 16 0)))
  done_at_once pending reset effect empty first taken-all =
      ap (λ (r : Ran Reply UsbState). r.end) (done_at_once_whole pending reset effect empty first taken-all)

  -- one with data is awaited
  pub awaits_whole : (c.transfer_length ≡ 0 → ⊥) → operation_run k c device flash bytes store ≡ counted 1 (runs usb_turn 3 (awaiting k c device flash bytes))
  unfolding follow onward done start_turn flash_after pending_after pend
  awaits_whole some = begun (done (IO c) device.last_reset Nothing) (rw (ne_eqb c.transfer_length 0 some))

  pub awaits : (c.transfer_length ≡ 0 → ⊥) → (operation_run k c device flash bytes store).end ≡ (runs usb_turn 3 (awaiting k c device flash bytes)).end
  awaits some = ap (λ (r : Ran Reply UsbState). r.end) (awaits_whole some)
