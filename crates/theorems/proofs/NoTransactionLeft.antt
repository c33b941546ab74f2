-- After one whole operation the device has no transaction: a refused bulk call ends it, and the finish comes only behind a status that was read,
-- which ends it too.
use Prim.Native.Nat.{ℕ, zero, suc, ◌/◌, ◌≤◌}
use mathlib.Core.Path.{◌≡◌, refl, ap, ap₂, sym, subst, ◌∙◌}
use mathlib.Core.List.{List, []}
use native.Mathlib.Omega.{arith}
use lib.Dec.{eqb}
use lib.ListN.{length, take, length-append, length-drop}
use borrow.Author.Tests.{ltb-false}
use Rattle.promise.specs.Told.{Told, given, refused, and_then}
use Rattle.promise.specs.Rules.{or_refuse}
use Rattle.promise.proofs.Outcome.{by_test, either_way}
use Rattle.protocol_bytes.specs.Sector.{sector_size}
use Rattle.protocol.specs.declared.CommandBlock.{CommandBlock}
use Rattle.mock_base.specs.Flash.{flash_rules, flash_sectors}
use Rattle.operation_finish.specs.Reply.{Reply}
use Rattle.operation_finish.specs.Finish.{finishes}
use Rattle.operation_finish.specs.declared.Kind.{Kind}
use Rattle.operation_finish.specs.declared.Kind.TheVariants as kind
use Rattle.operation.specs.declared.steps.Operation.{Operation}
use Rattle.operation.specs.declared.steps.Operation.TheVariants as operation
use Rattle.operation.specs.declared.steps.IOBytes.TheVariants as io
use Rattle.operation.specs.declared.steps.Asked.{Asked}
use Rattle.operation.specs.declared.steps.Asked.TheVariants as asked
use Rattle.operation.specs.declared.steps.UsbOperation.{UsbOperation}
use Rattle.operation.specs.Record.{io_of, transfer_length, inband_length, after_command, turned, command_out, commanded}
use Rattle.operation.specs.Step.{finished_told, command_step, io_step, status_step, finish_step, step_of}
use Rattle.operation.proofs.Laws.{data_read, data_write, give_keeps}
use Rattle.mock_table.specs.Turn.{session, done}
use Rattle.mock_table.specs.declared.session.CommandState.{CommandState}
use Rattle.mock_table.specs.declared.session.CommandState.TheVariants.{None}
use Rattle.mock.specs.declared.device.MockState.{MockState}
use Rattle.mock.specs.Device.{session_of, with_session, write_bulk, read_bulk}
use Rattle.mock_effects.proofs.Frames.{write_long}
use Rattle.promise.specs.Run.{Turned, ends, goes, out_of_steps, Ran, follow, runs}
use Rattle.run_turn.specs.Turn.{UsbState, usb_state, onward, wrote, buffer_for, landed, giving, gives, received, got, transfers, after, usb_turn}
use Rattle.run_operation.specs.Run.{sector_data, run_rules, unstarted, usb_run, whole_budget}
use Rattle.theorems.proofs.OperationSteps.{whole_ends}
use Rattle.theorems.proofs.CallsThatEnd.{write_ends, read_ends, status_ends}
use Rattle.theorems.specs.Standing.{Idle}

-- a run that is under way
record Going (device : MockState) (flash : ℕ) (s : UsbState) : Type 0 where
  same : s.device ≡ with_session device (session_of s.device)
  long : length s.flash ≡ flash
  enough : sector_data s.operation.kind (transfer_length s.operation) ≤ length s.«data»
  ended : s.operation.next ≡ operation.Finish → s.device.current_command ≡ None

-- what a read leaves of the caller's data is as long as it was
pub landed_long : (a : Asked) (bytes lent : List ℕ) → length lent ≤ length (landed a bytes lent)
unfolding landed
landed_long asked.Nothing bytes lent = omega arith
landed_long asked.Inband bytes lent = omega arith
landed_long asked.Sectors bytes lent = simp (length-append, length-drop) (omega arith)
landed_long asked.Status bytes lent = omega arith

-- the data is followed by the status, and the command by either
status_first : operation.CommandStatus ≡ operation.Finish → ⊥
status_first e = let z : ◌≡◌ {A = ℕ} 0 1 = cc in omega arith

not_yet : (size : ℕ) → after_command size ≡ operation.Finish → ⊥
unfolding after_command
not_yet size = by_test (λ (o : Operation). o ≡ operation.Finish → ⊥) (eqb size 0) (λ t. status_first) (λ t e. let z : ◌≡◌ {A = ℕ} 0 1 = cc in omega arith)

module _ (device : MockState) (flash sectors : ℕ) (legal : flash_sectors flash ≡ given sectors) where
  abbrev Turns : Turned Reply UsbState → Type 0
  Turns (goes s) = Going device flash s
  Turns (ends told s) = Idle device flash s

  idle : (s : UsbState) → Going device flash s → s.device.current_command ≡ None → Idle device flash s
  idle s g none = record { same = g.same ∙ ap (λ (x : CommandState). with_session device (session x s.device.last_reset)) none; long = g.long }

  onward_turns : (told : Told Unit) (s : UsbState) → Going device flash s → ((n : ℕ) (values : List ℕ) → told ≡ refused n values → s.device.current_command ≡ None)
      → Turns (onward told s)
  unfolding onward
  onward_turns (given done) s g none = g
  onward_turns (refused number values) s g none = idle s g (none number values refl)

  giving_goes : (s : UsbState) (bytes : List ℕ) (lent : ℕ) → Going device flash s → Going device flash (giving s bytes lent)
  giving_goes s bytes lent g =
      let k = give_keeps s.operation bytes lent in
      record {
        same = g.same;
        long = g.long;
        enough = subst (λ (n : ℕ). n ≤ length s.«data»)
            (sym (ap₂ (λ (x : Kind) (c : CommandBlock). sector_data x c.transfer_length) k.kind k.command)) g.enough;
        ended = λ e. g.ended (sym k.next ∙ e);
      }

  gives_goes : (a : Asked) (s : UsbState) (bytes : List ℕ) → Going device flash s → Going device flash (gives a s bytes)
  unfolding gives
  gives_goes asked.Nothing s bytes g = giving_goes s bytes 0 g
  gives_goes asked.Inband s bytes g = giving_goes s bytes 0 g
  gives_goes asked.Sectors s bytes g = giving_goes s [] (length s.«data») g
  gives_goes asked.Status s bytes g = giving_goes s bytes 0 g

  received_turns : (told : Told Unit) (a : Asked) (s : UsbState) (bytes : List ℕ) → Going device flash s
      → ((n : ℕ) (values : List ℕ) → told ≡ refused n values → s.device.current_command ≡ None) → Turns (received told a s bytes)
  unfolding received
  received_turns (given done) a s bytes g none = gives_goes a s bytes g
  received_turns (refused number values) a s bytes g none = idle s g (none number values refl)

  -- a bulk call of an operation that is now `op`
  module _ (s : UsbState) (g : Going device flash s) (op : UsbOperation) (enough : sector_data op.kind (transfer_length op) ≤ length s.«data») where
    abbrev now : UsbState
    now = usb_state op s.device s.flash s.«data»

    here : flash_sectors (length s.flash) ≡ given sectors
    here = rw g.long legal

    write_turns : (bytes : List ℕ) → (op.next ≡ operation.Finish → ⊥) → Turns (wrote now (write_bulk s.device s.flash bytes))
    unfolding write_bulk
    write_turns bytes far =
        let w = write_bulk s.device s.flash bytes in
        onward_turns w.told (usb_state op w.next w.leaves s.«data»)
        (record {
          same = ap (λ (d : MockState). with_session d (session_of w.next)) g.same;
          long = write_long s.device.variety s.device.config.block_size_sectors (session_of s.device) s.flash bytes ∙ g.long;
          enough = enough;
          ended = λ e. absurd (far e);
        })
        (write_ends s.device s.flash sectors here bytes)

    read_turns : (a : Asked) (n : ℕ) → (op.next ≡ operation.Finish → (read_bulk s.device s.flash (buffer_for a n now)).next.current_command ≡ None)
        → Turns (got a now (read_bulk s.device s.flash (buffer_for a n now)))
    unfolding read_bulk
    read_turns a n none =
        let r = read_bulk s.device s.flash (buffer_for a n now) in
        received_turns r.told a (usb_state op r.next s.flash (landed a r.leaves s.«data»)) r.leaves
        (record {
          same = ap (λ (d : MockState). with_session d (session_of r.next)) g.same;
          long = g.long;
          enough = omega (arith, enough, landed_long a r.leaves s.«data»);
          ended = none;
        })
        (read_ends s.device s.flash sectors here (buffer_for a n now))

  -- the data step, by the operation's kind
  module _ (s : UsbState) (g : Going device flash s) where
    inband_turns : Turns (after (io_step io.Inband s.operation (length s.«data»)) s)
    unfolding io_step transfers
    inband_turns = read_turns s g (turned s.operation operation.CommandStatus asked.Inband) g.enough asked.Inband (inband_length s.operation) (λ e. absurd (status_first e))

    io_turns : (k : Kind) → s.operation.kind ≡ k → Turns (after (io_step (io_of k) s.operation (length s.«data»)) s)
    unfolding transfers sector_data
    io_turns kind.ChipInfo e = inband_turns
    io_turns kind.FlashId e = inband_turns
    io_turns kind.FlashInfo e = inband_turns
    io_turns kind.Capability e = inband_turns
    io_turns kind.Nothing e = inband_turns
    io_turns kind.Storage e = inband_turns
    io_turns kind.Read e =
        let enough : transfer_length s.operation ≤ length s.«data» = rw e at g.enough in
        rw (data_read s.operation (length s.«data») enough)
        (read_turns s g (turned s.operation operation.CommandStatus asked.Sectors) g.enough asked.Sectors (transfer_length s.operation) (λ f. absurd (status_first f)))
    io_turns kind.Write e =
        let enough : transfer_length s.operation ≤ length s.«data» = rw e at g.enough in
        rw (data_write s.operation (length s.«data») enough)
        (write_turns s g (turned s.operation operation.CommandStatus asked.Nothing) g.enough (take (transfer_length s.operation) s.«data») status_first)

    finish_turns : (t : Told Reply) → s.device.current_command ≡ None
        → Turns (transfers (finished_told t) [] (usb_state (turned s.operation operation.CommandBlock asked.Nothing) s.device s.flash s.«data»))
    unfolding transfers finished_told and_then
    finish_turns (given reply) none = record { same = (idle s g none).same; long = g.long }
    finish_turns (refused number values) none = record { same = (idle s g none).same; long = g.long }

    step_turns : (here : Operation) → s.operation.next ≡ here → Turns (after (step_of here s.operation (length s.«data») 31) s)
    unfolding step_of command_step or_refuse status_step finish_step transfers buffer_for
    step_turns operation.CommandBlock e =
        write_turns s g (commanded s.operation) g.enough (command_out s.operation) (not_yet (transfer_length s.operation))
    step_turns operation.IO e = io_turns s.operation.kind refl
    step_turns operation.CommandStatus e =
        read_turns s g (turned s.operation operation.Finish asked.Status) g.enough asked.Status 13 (λ f. status_ends s.device s.flash sectors (rw g.long legal))
    step_turns operation.Finish e =
        finish_turns (finishes s.operation.kind s.operation.command.tag (transfer_length s.operation) s.operation.command_bytes s.operation.«data») (g.ended e)

    turn_turns : Turns (usb_turn s)
    unfolding usb_turn
    turn_turns = step_turns s.operation.next refl

  -- a run that is not out of steps
  turned_idle : (budget : ℕ) (t : Turned Reply UsbState) → Turns t
      → ((next : UsbState) → Going device flash next → ((runs usb_turn budget next).end ≡ out_of_steps → ⊥) → Idle device flash (runs usb_turn budget next).state)
      → ((follow t (λ next. runs usb_turn budget next)).end ≡ out_of_steps → ⊥) → Idle device flash (follow t (λ next. runs usb_turn budget next)).state
  unfolding follow
  turned_idle budget (ends told s) turns ih more = turns
  turned_idle budget (goes s) turns ih more = ih s turns more

  runs_idle : (budget : ℕ) (s : UsbState) → Going device flash s → ((runs usb_turn budget s).end ≡ out_of_steps → ⊥) → Idle device flash (runs usb_turn budget s).state
  unfolding runs
  runs_idle zero s g more = absurd (more refl)
  runs_idle (suc budget) s g more = turned_idle budget (usb_turn s) (turn_turns s g) (λ next. runs_idle budget next) more

-- IDLE AGAIN. From a device with no transaction, an operation's run that is not out of steps leaves one with none, whatever it ends in
pub run_idle : (s : UsbState) (store budget : ℕ) → s.device.current_command ≡ None → ((usb_run s store budget).end ≡ out_of_steps → ⊥)
    → Idle s.device (length s.flash) (usb_run s store budget).state
unfolding usb_run run_rules flash_rules flash_sectors or_refuse
run_idle s store budget none =
    let n = length s.flash in
    let wants = sector_data s.operation.kind (transfer_length s.operation) in
    let same : s.device ≡ with_session s.device (session None s.device.last_reset) =
    ap (λ (x : CommandState). with_session s.device (session x s.device.last_reset)) none in
    either_way (λ (r : Ran Reply UsbState). (r.end ≡ out_of_steps → ⊥) → Idle s.device n r.state) (unstarted s) (run_rules s store) (runs usb_turn budget s)
    (λ number values more. record { same = same; long = refl })
    (λ met.
    runs_idle s.device n (n / sector_size) (rw (met.0, met.1.0) refl) budget s
    (record { same = refl; long = refl; enough = ltb-false (length s.«data») wants met.1.1.1.0; ended = λ e. none }))

-- .. and one whole operation never is
pub whole_idle : (s : UsbState) (store : ℕ) → s.device.current_command ≡ None → Idle s.device (length s.flash) (usb_run s store whole_budget).state
whole_idle s store none = run_idle s store whole_budget none (whole_ends s store)
