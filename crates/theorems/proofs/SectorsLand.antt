-- What an unrefused run leaves at the stand-in: a write puts its data over its sectors, a read gives the flash's bytes.
use Prim.Native.Nat.{ℕ, zero, suc, ◌*◌, ◌/◌, ◌^◌, ◌≤◌, ◌<◌}
use mathlib.Core.Path.{◌≡◌, refl, ap, ◌∙◌}
use mathlib.Core.Bool.{Bool, true, false}
use mathlib.Core.List.{List, []}
use native.Mathlib.Omega.{arith}
use borrow.Author.Tests.{ne_eqb, ltb-false}
use lib.Dec.{eqb}
use lib.ListN.{length, take, replicate}
use Rattle.promise.specs.Told.{Told, given, refused, and_then}
use Rattle.promise.specs.Rules.{pick, or_refuse}
use Rattle.promise.specs.Bytes.{field, front}
use Rattle.promise.specs.Over.{over}
use Rattle.promise.proofs.Outcome.{Met, either_way}
use Rattle.protocol_codes.specs.declared.CommandCode.TheVariants.{ReadLBA}
use Rattle.protocol_bytes.specs.Sector.{sector_size}
use Rattle.protocol.specs.CommandBytes.{read_command}
use Rattle.protocol.specs.declared.CommandBlock.{CommandBlock}
use Rattle.protocol.proofs.Trips.{reads_back}
use Rattle.operation_finish.specs.Reply.{Reply}
use Rattle.operation_finish.specs.Finish.{finishes}
use Rattle.operation_finish.specs.declared.Kind.{Kind}
use Rattle.operation_finish.specs.declared.Kind.TheVariants as kind
use Rattle.operation.specs.declared.steps.Operation.{Operation}
use Rattle.operation.specs.declared.steps.Operation.TheVariants as operation
use Rattle.operation.specs.declared.steps.Asked.TheVariants as asked
use Rattle.operation.specs.declared.steps.UsbOperation.{UsbOperation}
use Rattle.operation.specs.Record.{io_of, transfer_length, after_command, turned, command_out, commanded, left_at, left}
use Rattle.operation.specs.Step.{writes_command, writes_data, reads, Step, does, io_step, status_step, finished_told, finish_step, step_of, usb_step}
use Rattle.operation.proofs.Laws.{at_command, at_io, data_read, data_write}
use Rattle.operation.proofs.Cases.{command_out_lem}
use Rattle.operation.proofs.Rounds.{left_kept}
use Rattle.mock_base.specs.Flash.{flash_rules, flash_sectors}
use Rattle.mock_table.specs.Turn.{Turn, done}
use Rattle.mock_table.specs.declared.outcome.Effect.TheVariants.{Nothing}
use Rattle.mock_table.specs.Table.{start_turn, write_row, write_turn}
use Rattle.mock_table.specs.declared.session.CommandState.TheVariants as state
use Rattle.mock_effects.specs.Effects.{flash_after, pending_after}
use Rattle.mock_effects.specs.Steps.{pend, write_step_of, write_step_by, written_status}
use Rattle.mock.specs.Device.{Call, write_bulk, read_bulk, session_of}
use Rattle.mock.specs.declared.device.MockState.{MockState}
use Rattle.mock_effects.proofs.Frames.{write_long}
use Rattle.mock_effects.proofs.ReadBack.{stored, as_asked, supplied}
use Rattle.mock_base.specs.declared.cells.Variety.{Variety}
use Rattle.promise.specs.Run.{Turned, ends, goes, End, tells, out_of_steps, Ran, follow, runs}
use Rattle.run_turn.specs.Turn.{UsbState, usb_state, onward, buffer_for, landed, gives, received, transfers, after, usb_turn}
use Rattle.run_operation.specs.Run.{sector_data, run_rules, unstarted, usb_run}
use Rattle.theorems.proofs.OperationSteps.{Uses, turn_uses}
use Rattle.theorems.proofs.FromStatus.{given_success}
use Rattle.theorems.specs.Standing.{AtCommand}

-- a turn that leaves flash and data so
abbrev Still : List ℕ → List ℕ → Turned Reply UsbState → Type 0
Still flash bytes (goes s) = (s.flash ≡ flash) × (s.«data» ≡ bytes)
Still flash bytes (ends told s) = (s.flash ≡ flash) × (s.«data» ≡ bytes)

received_still : (told : Told Unit) (s : UsbState) (bytes : List ℕ) → Still s.flash s.«data» (received told asked.Status s bytes)
unfolding received gives
received_still (given done) s bytes = (refl, refl)
received_still (refused number values) s bytes = (refl, refl)

finished_still : (t : Told Reply) (s : UsbState) → Still s.flash s.«data» (transfers (finished_told t) [] s)
unfolding transfers finished_told and_then
finished_still (given reply) s = (refl, refl)
finished_still (refused number values) s = (refl, refl)

three_more : (b : Bool) → pick b 3 4 ≤ 2 → ⊥
three_more true h = omega arith
three_more false h = omega arith

-- from the status on, nothing is written
still_of : (here : Operation) (op : UsbOperation) (lent : ℕ) (s : UsbState) → left_at here (transfer_length op) ≤ 2
    → Still s.flash s.«data» (after (step_of here op lent 31) s)
unfolding left_at step_of status_step finish_step transfers buffer_for landed
still_of operation.CommandBlock op lent s h = absurd (three_more (eqb (transfer_length op) 0) h)
still_of operation.IO op lent s h = absurd (omega arith)
still_of operation.CommandStatus op lent s h =
    let g = read_bulk s.device s.flash (replicate 13 0) in
    received_still g.told (usb_state (turned op operation.Finish asked.Status) g.next s.flash s.«data») g.leaves
still_of operation.Finish op lent s h =
    finished_still (finishes op.kind op.command.tag (transfer_length op) op.command_bytes op.«data»)
    (usb_state (turned op operation.CommandBlock asked.Nothing) s.device s.flash s.«data»)

still_turn : (s : UsbState) → left s.operation ≤ 2 → Still s.flash s.«data» (usb_turn s)
unfolding usb_turn
still_turn s h = still_of s.operation.next s.operation (length s.«data») s h

-- what a run leaves
abbrev Leaves : List ℕ → List ℕ → Ran Reply UsbState → Type 0
Leaves flash bytes r = (r.state.flash ≡ flash) × (r.state.«data» ≡ bytes)

still_after : (n budget : ℕ) (flash bytes : List ℕ) (t : Turned Reply UsbState) → Still flash bytes t → Uses n t → n ≤ 2
    → ((next : UsbState) → left next.operation ≤ 2 → Leaves next.flash next.«data» (runs usb_turn budget next))
    → Leaves flash bytes (follow t (λ next. runs usb_turn budget next))
unfolding follow
still_after n budget flash bytes (ends told s) still uses h ih = still
still_after n budget flash bytes (goes s) still uses h ih =
    let rest = ih s (omega (arith, uses)) in
    (rest.0 ∙ still.0, rest.1 ∙ still.1)

still : (budget : ℕ) (s : UsbState) → left s.operation ≤ 2 → Leaves s.flash s.«data» (runs usb_turn budget s)
unfolding runs
still zero s h = (refl, refl)
still (suc budget) s h =
    still_after (left s.operation) budget s.flash s.«data» (usb_turn s) (still_turn s h) (turn_uses s) h (λ next. still budget next)

-- an unrefused run, once its next turn is known
data Gone (budget : ℕ) (s next : UsbState) (reply : Reply) (told : Told Unit) : Type 0 where
  gone : (b : ℕ) → told ≡ given tt → (runs usb_turn b next).end ≡ tells (given reply) → (runs usb_turn budget s).state ≡ (runs usb_turn b next).state
      → Gone budget s next reply told

not_told : {C : Type 0} (number : ℕ) (values : List ℕ) (reply : Reply) → ◌≡◌ {A = End Reply} (tells (refused number values)) (tells (given reply)) → C
not_told number values reply e = absurd (let z : ◌≡◌ {A = ℕ} 0 1 = cc in omega arith)

not_spent : {C : Type 0} (reply : Reply) → ◌≡◌ {A = End Reply} out_of_steps (tells (given reply)) → C
not_spent reply e = absurd (let z : ◌≡◌ {A = ℕ} 0 1 = cc in omega arith)

onward_gone : (budget : ℕ) (s next : UsbState) (reply : Reply) (told : Told Unit) → usb_turn s ≡ onward told next → (runs usb_turn budget s).end ≡ tells (given reply)
    → Gone budget s next reply told
unfolding runs follow onward
onward_gone zero s next reply told t e = not_spent reply e
onward_gone (suc budget) s next reply (given done) t e = gone budget refl (rw t at e) (rw t)
onward_gone (suc budget) s next reply (refused number values) t e = not_told number values reply (rw t at e)

received_gone : (budget : ℕ) (s next : UsbState) (bytes : List ℕ) (reply : Reply) (told : Told Unit) → usb_turn s ≡ received told asked.Sectors next bytes
    → (runs usb_turn budget s).end ≡ tells (given reply) → Gone budget s (gives asked.Sectors next bytes) reply told
unfolding runs follow received
received_gone zero s next bytes reply told t e = not_spent reply e
received_gone (suc budget) s next bytes reply (given done) t e = gone budget refl (rw t at e) (rw t)
received_gone (suc budget) s next bytes reply (refused number values) t e = not_told number values reply (rw t at e)

-- the command is taken as the block that it is
taken_of : (t : Told ℕ) (v : Variety) (block : ℕ) (d : MockState) (flash bytes : List ℕ) (c : CommandBlock) → d.current_command ≡ state.None → read_command bytes ≡ given c
    → (c.transfer_length ≡ 0 → ⊥) → (write_step_of t v block (session_of d) flash bytes).told ≡ given tt
    → ((write_step_of t v block (session_of d) flash bytes).next.current_command ≡ state.IO c) × ((write_step_of t v block (session_of d) flash bytes).leaves ≡ flash)
unfolding write_step_of write_row start_turn done flash_after pending_after pend
taken_of (refused number values) v block d flash bytes c none read long h = absurd (let z : ◌≡◌ {A = ℕ} 0 1 = cc in omega arith)
taken_of (given sectors) v block d flash bytes c none read long h =
    let turn : write_turn v block (session_of d) sectors bytes ≡ done (state.IO c) d.last_reset Nothing = rw (none, read, ne_eqb c.transfer_length 0 long) in
    (ap (λ (x : Turn). pend (pending_after x.effect bytes flash) x.next.current_command) turn, ap (λ (x : Turn). flash_after x.effect bytes flash) turn)

-- where what is left writes nothing
gone_leaves : (budget : ℕ) (s next : UsbState) (reply : Reply) (told : Told Unit) → left next.operation ≤ 2 → Gone budget s next reply told
    → (told ≡ given tt) × Leaves next.flash next.«data» (runs usb_turn budget s)
gone_leaves budget s next reply told h (gone b t e same) =
    let rest = still b next h in
    (t, (ap (λ (z : UsbState). z.flash) same ∙ rest.0, ap (λ (z : UsbState). z.«data») same ∙ rest.1))

-- and the rest of the run
gone_ends : (budget : ℕ) (s next : UsbState) (reply : Reply) (told : Told Unit) → Gone budget s next reply told
    → (b : ℕ) × ((runs usb_turn b next).end ≡ tells (given reply))
gone_ends budget s next reply told (gone b t e same) = (b, e)

-- the data step of an operation whose command the device awaits data for
module _ (budget : ℕ) (s : UsbState) (reply : Reply) (c : CommandBlock) (enough : transfer_length s.operation ≤ length s.«data»)
    (here : s.operation.next ≡ operation.IO) (waits : s.device.current_command ≡ state.IO c) (e : (runs usb_turn budget s).end ≡ tells (given reply)) where
  data_written : (sectors : ℕ) → flash_sectors (length s.flash) ≡ given sectors → c.tag ≡ s.operation.command.tag → c.tag < 256 ^ 4 → s.operation.kind ≡ kind.Write
      → (runs usb_turn budget s).state.flash ≡ over (c.cd_address * sector_size) (take (transfer_length s.operation) s.«data») s.flash
  unfolding usb_turn transfers left_at write_bulk
  data_written sectors legal tag fits k =
      let op = s.operation in
      let bytes = take (transfer_length op) s.«data» in
      let w = write_bulk s.device s.flash bytes in
      let step : usb_step op (length s.«data») 31 ≡ does (given (writes_data (transfer_length op))) [] (turned op operation.CommandStatus asked.Nothing) =
      at_io op (length s.«data») 31 here ∙ ap (λ (x : Kind). io_step (io_of x) op (length s.«data»)) k ∙ data_write op (length s.«data») enough in
      let next = usb_state (turned op operation.CommandStatus asked.Nothing) w.next w.leaves s.«data» in
      let turn : usb_turn s ≡ onward w.told next = ap (λ (x : Step). after x s) step in
      let left-two : left next.operation ≤ 2 = omega arith in
      let went = onward_gone budget s next reply w.told turn e in
      let g = gone_leaves budget s next reply w.told left-two went in
      let v = s.device.variety in
      let block = s.device.config.block_size_sectors in
      let put = stored v block (session_of s.device) s.flash bytes c waits g.0 in
      let rest = gone_ends budget s next reply w.told went in
      let success = given_success next c (written_status v c bytes s.flash) sectors (ap flash_sectors (write_long v block (session_of s.device) s.flash bytes) ∙ legal) refl put.pending tag fits rest.0 reply rest.1 in
      g.1.0 ∙ put.leaves ∙ as_asked v c bytes s.flash success

  data_read_out : s.operation.kind ≡ kind.Read → c.cd_code ≡ ReadLBA
      → ((runs usb_turn budget s).state.flash ≡ s.flash)
      × ((runs usb_turn budget s).state.«data» ≡ front (front (field (c.cd_address * sector_size) (c.cd_length * sector_size) s.flash) (take (transfer_length s.operation) s.«data»)) s.«data»)
  unfolding usb_turn transfers left_at buffer_for landed gives read_bulk
  data_read_out k code =
      let op = s.operation in
      let buffer = take (transfer_length op) s.«data» in
      let g = read_bulk s.device s.flash buffer in
      let step : usb_step op (length s.«data») 31 ≡ does (given (reads asked.Sectors (transfer_length op))) [] (turned op operation.CommandStatus asked.Sectors) =
      at_io op (length s.«data») 31 here ∙ ap (λ (x : Kind). io_step (io_of x) op (length s.«data»)) k ∙ data_read op (length s.«data») enough in
      let mid = usb_state (turned op operation.CommandStatus asked.Sectors) g.next s.flash (front g.leaves s.«data») in
      let turn : usb_turn s ≡ received g.told asked.Sectors mid g.leaves = ap (λ (x : Step). after x s) step in
      let left-two : left (gives asked.Sectors mid g.leaves).operation ≤ 2 = omega (arith, left_kept mid.operation [] (length mid.«data»)) in
      let r = gone_leaves budget s (gives asked.Sectors mid g.leaves) reply g.told left-two (received_gone budget s mid g.leaves reply g.told turn e) in
      (r.1.0, r.1.1 ∙ ap (λ (l : List ℕ). front l s.«data») (supplied s.device.variety (session_of s.device) s.device.config s.flash buffer c waits code r.0).leaves)

module _ (budget : ℕ) (s : UsbState) (reply : Reply) (enough : transfer_length s.operation ≤ length s.«data») (r : AtCommand s)
    (e : (runs usb_turn budget s).end ≡ tells (given reply)) where
  -- the state once the command is out
  abbrev sent : Call
  sent = write_bulk s.device s.flash (command_out s.operation)

  abbrev begun : UsbState
  begun = usb_state (commanded s.operation) sent.next sent.leaves s.«data»

  command_gone : Gone budget s begun reply sent.told
  unfolding usb_turn transfers
  command_gone =
      let step : usb_step s.operation (length s.«data») 31 ≡ does (given writes_command) (command_out s.operation) (commanded s.operation) =
      at_command s.operation (length s.«data») 31 r.here ∙ command_out_lem s.operation 31 (omega arith) in
      onward_gone budget s begun reply sent.told (ap (λ (x : Step). after x s) step) e

  command_taken : sent.told ≡ given tt → (sent.next.current_command ≡ state.IO s.operation.command) × (sent.leaves ≡ s.flash)
  unfolding write_bulk write_step_by
  command_taken h =
      let c = s.operation.command in
      taken_of (flash_sectors (length s.flash)) s.device.variety s.device.config.block_size_sectors s.device s.flash (command_out s.operation) c r.none (reads_back c (replicate 7 0) r.fits (omega arith)) r.long h

  at_data : (commanded s.operation).next ≡ operation.IO
  unfolding after_command
  at_data = rw (ne_eqb (transfer_length s.operation) 0 r.long)

  run_written : (sectors : ℕ) → flash_sectors (length s.flash) ≡ given sectors → s.operation.kind ≡ kind.Write → Gone budget s begun reply sent.told
      → (runs usb_turn budget s).state.flash ≡ over (s.operation.command.cd_address * sector_size) (take (transfer_length s.operation) s.«data») s.flash
  run_written sectors legal k (gone b t f same) =
      let taken = command_taken t in
      ap (λ (z : UsbState). z.flash) same ∙ data_written b begun reply s.operation.command enough at_data taken.0 f sectors (ap (λ (l : List ℕ). flash_sectors (length l)) taken.1 ∙ legal) refl r.fits.tag k
      ∙ ap (over (s.operation.command.cd_address * sector_size) (take (transfer_length s.operation) s.«data»)) taken.1

  run_read : s.operation.kind ≡ kind.Read → s.operation.command.cd_code ≡ ReadLBA → Gone budget s begun reply sent.told
      → ((runs usb_turn budget s).state.flash ≡ s.flash)
      × ((runs usb_turn budget s).state.«data» ≡ front (front (field (s.operation.command.cd_address * sector_size) (s.operation.command.cd_length * sector_size) s.flash) (take (transfer_length s.operation) s.«data»)) s.«data»)
  run_read k code (gone b t f same) =
      let c = s.operation.command in
      let taken = command_taken t in
      let d = data_read_out b begun reply c enough at_data taken.0 f k code in (
        ap (λ (z : UsbState). z.flash) same ∙ d.0 ∙ taken.1,
        ap (λ (z : UsbState). z.«data») same ∙ d.1
            ∙ ap (λ (l : List ℕ). front (front (field (c.cd_address * sector_size) (c.cd_length * sector_size) l) (take (transfer_length s.operation) s.«data»)) s.«data») taken.1,
      )

-- where the run's own checks are met the data is long enough
enough_lent : (s : UsbState) (store : ℕ) → sector_data s.operation.kind (transfer_length s.operation) ≡ transfer_length s.operation → Met (run_rules s store)
    → transfer_length s.operation ≤ length s.«data»
unfolding run_rules flash_rules
enough_lent s store same met = omega (arith, same, ltb-false (length s.«data») (sector_data s.operation.kind (transfer_length s.operation)) met.1.1.1.0)

legal_flash : (s : UsbState) (store : ℕ) → Met (run_rules s store) → flash_sectors (length s.flash) ≡ given (length s.flash / sector_size)
unfolding run_rules flash_rules flash_sectors or_refuse
legal_flash s store met = rw (met.0, met.1.0) refl

-- AN UNREFUSED WRITE, of either variety, leaves the flash with the data at its sectors, and all else as it was
pub write_lands : (s : UsbState) (store budget : ℕ) (reply : Reply) → AtCommand s → s.operation.kind ≡ kind.Write
    → (usb_run s store budget).end ≡ tells (given reply)
    → (usb_run s store budget).state.flash ≡ over (s.operation.command.cd_address * sector_size) (take (transfer_length s.operation) s.«data») s.flash
unfolding usb_run sector_data
write_lands s store budget reply r k =
    either_way
    (λ (x : Ran Reply UsbState). x.end ≡ tells (given reply) → x.state.flash ≡ over (s.operation.command.cd_address * sector_size) (take (transfer_length s.operation) s.«data») s.flash)
    (unstarted s) (run_rules s store) (runs usb_turn budget s) (λ n values e. not_told n values reply e)
    (λ met e.
    let enough = enough_lent s store (ap (λ (x : Kind). sector_data x (transfer_length s.operation)) k) met in
    run_written budget s reply enough r e (length s.flash / sector_size) (legal_flash s store met) k (command_gone budget s reply enough r e))

-- AN UNREFUSED READ gives the flash's bytes at its sectors, and leaves the flash as it was
pub read_lands : (s : UsbState) (store budget : ℕ) (reply : Reply) → AtCommand s → s.operation.kind ≡ kind.Read → s.operation.command.cd_code ≡ ReadLBA
    → (usb_run s store budget).end ≡ tells (given reply)
    → ((usb_run s store budget).state.flash ≡ s.flash)
    × ((usb_run s store budget).state.«data» ≡ front (front (field (s.operation.command.cd_address * sector_size) (s.operation.command.cd_length * sector_size) s.flash) (take (transfer_length s.operation) s.«data»)) s.«data»)
unfolding usb_run sector_data
read_lands s store budget reply r k code =
    either_way
    (λ (x : Ran Reply UsbState).
    x.end ≡ tells (given reply)
    → (x.state.flash ≡ s.flash)
    × (x.state.«data» ≡ front (front (field (s.operation.command.cd_address * sector_size) (s.operation.command.cd_length * sector_size) s.flash) (take (transfer_length s.operation) s.«data»)) s.«data»))
    (unstarted s) (run_rules s store) (runs usb_turn budget s) (λ n values e. not_told n values reply e)
    (λ met e.
    let enough = enough_lent s store (ap (λ (x : Kind). sector_data x (transfer_length s.operation)) k) met in
    run_read budget s reply enough r e k code (command_gone budget s reply enough r e))
