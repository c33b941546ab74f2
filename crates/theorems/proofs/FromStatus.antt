-- An operation at its status, at a device that awaits it: the status has the command's tag, and so the finish gives the reply, or 15 where FAILED is
-- pending.
use Prim.Native.Nat.{ℕ, zero, suc, ◌<◌, ◌^◌}
use mathlib.Core.Path.{◌≡◌, refl, ap, sym, ◌∙◌}
use mathlib.Core.List.{List, [], ◌++◌, append_assoc}
use native.Mathlib.Omega.{arith}
use lib.ListN.{length, drop, replicate}
use Rattle.promise.specs.Told.{Told, given, refused, and_then}
use Rattle.promise.specs.Bytes.{front, high_first, low_first}
use Rattle.protocol_codes.specs.declared.Status as status
use Rattle.protocol_codes.specs.declared.Status.TheVariants.{SUCCESS, FAILED}
use Rattle.promise.specs.Rules.{or_refuse}
use Rattle.protocol_status.specs.StatusBytes.{status_bytes, read_status}
use Rattle.protocol_status.specs.declared.report.CommandStatus.{CommandStatus}
use Rattle.protocol_status.proofs.Trips.{reads_back}
use Rattle.protocol.specs.declared.CommandBlock.{CommandBlock}
use Rattle.operation_finish.specs.Reply.{Reply}
use Rattle.operation_finish.specs.Finish.{finishes, reply_of}
use Rattle.operation_finish.proofs.Cases.{finish_reply, finish_15}
use Rattle.operation.specs.declared.steps.Operation.TheVariants as operation
use Rattle.operation.specs.declared.steps.Asked.TheVariants as asked
use Rattle.operation.specs.declared.steps.UsbOperation.{UsbOperation}
use Rattle.operation.specs.Record.{transfer_length, turned, with_status}
use Rattle.operation.specs.Step.{Step, finished_told, status_step, finish_step}
use Rattle.operation.specs.Give.{Give, asks_for, owed, nothing_asked, usb_give}
use Rattle.operation.specs.Give as giving
use Rattle.operation.proofs.Laws.{at_status, at_finish_lem}
use Rattle.operation.proofs.Cases.{give_taken}
use Rattle.mock_base.specs.Flash.{flash_sectors}
use Rattle.mock_table.specs.Turn.{session, done, reply_size}
use Rattle.mock_table.specs.Table.{status_turn, read_row}
use Rattle.mock_table.specs.declared.session.CommandState.TheVariants.{None, Status}
use Rattle.mock_table.specs.declared.outcome.Effect.TheVariants as effect
use Rattle.mock_table.specs.declared.outcome.ReplyKind.TheVariants as reply
use Rattle.mock_effects.specs.Effects.{reply_bytes, buffer_after}
use Rattle.mock.specs.Device.{Call, with_session, read_bulk}
use Rattle.promise.specs.Run.{ends, goes, End, tells, out_of_steps, Ran, ran, follow, runs}
use Rattle.run_turn.specs.Turn.{UsbState, usb_state, buffer_for, landed, gives, received, got, transfers, after, usb_turn}
use Rattle.operation_finish.specs.declared.Kind.{Kind}
use Rattle.theorems.specs.Runs.{rearmed}
use Rattle.theorems.specs.Told.{by_status}
use Rattle.theorems.proofs.CallsByTurn.{reads_as}

-- the finish is the last turn, whatever it tells
finish_ends : (t : Told Reply) (s : UsbState) → transfers (finished_told t) [] s ≡ ends t s
unfolding transfers finished_told and_then
finish_ends (given r) s = refl
finish_ends (refused number values) s = refl

pub finish_turn : (s : UsbState) → s.operation.next ≡ operation.Finish
    → usb_turn s ≡ ends (finishes s.operation.kind s.operation.command.tag (transfer_length s.operation) s.operation.command_bytes s.operation.«data»)
    (usb_state (turned s.operation operation.CommandBlock asked.Nothing) s.device s.flash s.«data»)
unfolding usb_turn finish_step
finish_turn s e =
    let op = s.operation in
    ap (λ (x : Step). after x s) (at_finish_lem op (length s.«data») 31 e)
    ∙ finish_ends (finishes op.kind op.command.tag (transfer_length op) op.command_bytes op.«data»)
    (usb_state (turned op operation.CommandBlock asked.Nothing) s.device s.flash s.«data»)

-- a finish over a status that was read and has the operation's tag
by_finish : (pending : status.Status) (k : Kind) (tag length : ℕ) (bytes inband : List ℕ) (report : CommandStatus) → read_status bytes ≡ given report
    → report.status ≡ pending → report.tag ≡ tag → finishes k tag length bytes inband ≡ by_status pending (reply_of k length report.residue inband)
unfolding by_status
by_finish SUCCESS k tag length bytes inband report read is own = finish_reply k tag length bytes inband report read is own
by_finish FAILED k tag length bytes inband report read is own = finish_15 k tag length bytes inband report read is

by_pending : (pending : status.Status) (told : Told Reply) (reply : Reply) → tells (by_status pending told) ≡ tells (given reply) → pending ≡ SUCCESS
unfolding by_status
by_pending SUCCESS told reply e = refl
by_pending FAILED told reply e = absurd (let z : ◌≡◌ {A = ℕ} 0 1 = cc in omega arith)

module _ (s : UsbState) (c : CommandBlock) (pending : status.Status) (sectors : ℕ) (legal : flash_sectors (length s.flash) ≡ given sectors) (here : s.operation.next ≡ operation.CommandStatus)
    (waits : s.device.current_command ≡ Status c pending) (tag : c.tag ≡ s.operation.command.tag) (fits : c.tag < 256 ^ 4) where
  abbrev report : CommandStatus
  report = record { tag = c.tag; residue = 0; status = pending }

  -- what the device gives, and the operation that was given it
  abbrev given_bytes : List ℕ
  given_bytes = front (status_bytes report) (replicate 13 0)

  abbrev asking : UsbOperation
  asking = turned s.operation operation.Finish asked.Status

  status_read : read_bulk s.device s.flash (replicate 13 0)
      ≡ record { told = given tt; next = with_session s.device (session None s.device.last_reset); leaves = given_bytes }
  unfolding read_row status_turn or_refuse reply_size done buffer_after reply_bytes
  status_read =
      reads_as s.device s.flash (replicate 13 0) sectors (Status c pending) (done None s.device.last_reset (effect.Reply (reply.Status c.tag pending))) legal waits refl

  status_given : (usb_give asking given_bytes 0).next ≡ with_status asking (front given_bytes s.operation.command_bytes)
  unfolding giving.received nothing_asked asks_for owed status_bytes high_first low_first
  status_given = ap (λ (g : Give). g.next) (give_taken asked.Status asking given_bytes 0 refl (omega arith) (omega arith))

  status_turn_lem : usb_turn s
      ≡ goes (usb_state (with_status asking (front given_bytes s.operation.command_bytes)) (with_session s.device (session None s.device.last_reset)) s.flash s.«data»)
  unfolding usb_turn status_step transfers buffer_for landed received gives
  status_turn_lem =
      let now = usb_state asking s.device s.flash s.«data» in
      ap (λ (x : Step). after x s) (at_status s.operation (length s.«data») 31 here)
      ∙ ap (λ (x : Call). got asked.Status now x) status_read
      ∙ ap (λ (x : UsbOperation). goes (usb_state x (with_session s.device (session None s.device.last_reset)) s.flash s.«data»)) status_given

  -- ANSWERED. Two more turns, and the end is the reply of an operation that moved all of its data, or 15; the operation is rearmed, and the device
  -- has no transaction
  abbrev pub ended : End Reply
  ended = tells (by_status pending (reply_of s.operation.kind (transfer_length s.operation) 0 s.operation.«data»))

  pub answered_whole : (budget : ℕ) → runs usb_turn (suc (suc budget)) s ≡ ran ended 2 (rearmed s c.tag pending)
  unfolding runs follow
  answered_whole budget =
      let op = s.operation in
      let got = front given_bytes op.command_bytes in
      let next = usb_state (with_status asking got) (with_session s.device (session None s.device.last_reset)) s.flash s.«data» in
      let behind : List ℕ = drop (length (status_bytes report)) (replicate 13 0) in
      let rest = drop (length given_bytes) op.command_bytes in
      let read = ap read_status (append_assoc (status_bytes report) behind rest) ∙ reads_back report (behind ++ rest) (record { tag = fits; residue = omega arith }) in
      rw (status_turn_lem, finish_turn next refl)
      (ap (λ (t : Told Reply). ran (tells t) 2 (rearmed s c.tag pending)) (by_finish pending op.kind op.command.tag (transfer_length op) got op.«data» report read refl tag))

  pub answered : (budget : ℕ) → (runs usb_turn (suc (suc budget)) s).end ≡ ended
  answered budget = ap (λ (r : Ran Reply UsbState). r.end) (answered_whole budget)

  -- GIVEN. A run from here that gives a reply met a status of success
  pub given_success : (budget : ℕ) (reply : Reply) → (runs usb_turn budget s).end ≡ tells (given reply) → pending ≡ SUCCESS
  unfolding runs follow
  given_success zero reply e = absurd (let z : ◌≡◌ {A = ℕ} 0 1 = cc in omega arith)
  given_success (suc zero) reply e =
      let f : ◌≡◌ {A = End Reply} out_of_steps (tells (given reply)) = rw status_turn_lem at e in absurd (let z : ◌≡◌ {A = ℕ} 0 1 = cc in omega arith)
  given_success (suc (suc budget)) reply e =
      by_pending pending (reply_of s.operation.kind (transfer_length s.operation) 0 s.operation.«data») reply (sym (answered budget) ∙ e)
