-- No turn changes an operation's kind.
use Prim.Native.Nat.{ℕ}
use mathlib.Core.Path.{◌≡◌, refl, subst}
use mathlib.Core.List.{List, [], ◌∷◌}
use lib.Dec.{ltb}
use lib.ListN.{length, take}
use Rattle.promise.specs.Told.{Told, given, refused}
use Rattle.promise.specs.Rules.{rule}
use Rattle.promise.proofs.Outcome.{either_way}
use Rattle.operation_finish.specs.Reply.{Reply}
use Rattle.operation_finish.specs.declared.Kind.{Kind}
use Rattle.operation.specs.declared.steps.Operation.{Operation}
use Rattle.operation.specs.declared.steps.Operation.TheVariants as operation
use Rattle.operation.specs.declared.steps.IOBytes.{IOBytes}
use Rattle.operation.specs.declared.steps.IOBytes.TheVariants as io
use Rattle.operation.specs.declared.steps.Asked.{Asked}
use Rattle.operation.specs.declared.steps.Asked.TheVariants as asked
use Rattle.operation.specs.declared.steps.UsbOperation.{UsbOperation}
use Rattle.operation.specs.Record.{io_of, transfer_length, turned, command_out, commanded}
use Rattle.operation.specs.Step.{Asks, writes_command, writes_data, reads, finished, Step, does, stays, sector_step, command_step, io_step, status_step, finish_step, step_of, usb_step}
use Rattle.operation.specs.Give.{Give, keeps, nothing_asked, asks_for, owed, received, give_of}
use Rattle.mock.specs.Device.{write_bulk, read_bulk}
use Rattle.promise.specs.Run.{Turned, ends, goes}
use Rattle.run_turn.specs.Turn.{UsbState, usb_state, onward, buffer_for, landed, gives, transfers, usb_turn}
use Rattle.run_turn.specs.Turn as turns

module _ (op : UsbOperation) where
  sector_kept : (lent : ℕ) (asks : Asks) (a : Asked) → (sector_step op lent asks a).next.kind ≡ op.kind
  sector_kept lent asks a =
      either_way (λ (s : Step). s.next.kind ≡ op.kind) (stays op) (rule (ltb lent (transfer_length op)) 27 [] ∷ [])
      (does (given asks) [] (turned op operation.CommandStatus a)) (λ n values. refl) (λ met. refl)

  io_kept : (i : IOBytes) (lent : ℕ) → (io_step i op lent).next.kind ≡ op.kind
  unfolding io_step
  io_kept io.Inband lent = refl
  io_kept io.Read lent = sector_kept lent (reads asked.Sectors (transfer_length op)) asked.Sectors
  io_kept io.Write lent = sector_kept lent (writes_data (transfer_length op)) asked.Nothing

  step_of_kept : (here : Operation) (lent room : ℕ) → (step_of here op lent room).next.kind ≡ op.kind
  unfolding step_of command_step status_step finish_step
  step_of_kept operation.CommandBlock lent room =
      either_way (λ (s : Step). s.next.kind ≡ op.kind) (stays op) (rule (ltb room 31) 20 [] ∷ []) (does (given writes_command) (command_out op) (commanded op))
      (λ n values. refl) (λ met. refl)
  step_of_kept operation.IO lent room = io_kept (io_of op.kind) lent
  step_of_kept operation.CommandStatus lent room = refl
  step_of_kept operation.Finish lent room = refl

  received_kept : (a : Asked) (bytes : List ℕ) → (received a op bytes).next.kind ≡ op.kind
  unfolding received
  received_kept asked.Nothing bytes = refl
  received_kept asked.Inband bytes = refl
  received_kept asked.Sectors bytes = refl
  received_kept asked.Status bytes = refl

  give_kept : (a : Asked) (bytes : List ℕ) (lent : ℕ) → (give_of a op bytes lent).next.kind ≡ op.kind
  unfolding give_of
  give_kept a bytes lent =
      either_way (λ (g : Give). g.next.kind ≡ op.kind) (keeps op)
      (rule (nothing_asked a) 22 [] ∷ rule (ltb (asks_for a op) (length bytes)) 21 [] ∷ rule (ltb lent (owed a op)) 27 [] ∷ [])
      (received a op bytes) (λ n values. refl) (λ met. received_kept a bytes)

-- whatever a turn comes to, the operation in it is of this kind
abbrev pub OfKind : Kind → Turned Reply UsbState → Type 0
OfKind k (ends told s) = s.operation.kind ≡ k
OfKind k (goes s) = s.operation.kind ≡ k

module _ (s : UsbState) where
  onward_kept : (told : Told Unit) → OfKind s.operation.kind (onward told s)
  unfolding onward
  onward_kept (given done) = refl
  onward_kept (refused number values) = refl

  gives_kept : (a : Asked) (bytes : List ℕ) → (gives a s bytes).operation.kind ≡ s.operation.kind
  unfolding gives
  gives_kept asked.Nothing bytes = give_kept s.operation s.operation.asked bytes 0
  gives_kept asked.Inband bytes = give_kept s.operation s.operation.asked bytes 0
  gives_kept asked.Sectors bytes = give_kept s.operation s.operation.asked [] (length s.«data»)
  gives_kept asked.Status bytes = give_kept s.operation s.operation.asked bytes 0

  got_kept : (told : Told Unit) (a : Asked) (bytes : List ℕ) → OfKind s.operation.kind (turns.received told a s bytes)
  unfolding turns.received
  got_kept (given done) a bytes = gives_kept a bytes
  got_kept (refused number values) a bytes = refl

transfers_kept : (told : Told Asks) (sent : List ℕ) (s : UsbState) → OfKind s.operation.kind (transfers told sent s)
unfolding transfers
transfers_kept (given writes_command) sent s =
    let w = write_bulk s.device s.flash sent in
    onward_kept (usb_state s.operation w.next w.leaves s.«data») w.told
transfers_kept (given (writes_data n)) sent s =
    let w = write_bulk s.device s.flash (take n s.«data») in
    onward_kept (usb_state s.operation w.next w.leaves s.«data») w.told
transfers_kept (given (reads a n)) sent s =
    let g = read_bulk s.device s.flash (buffer_for a n s) in
    got_kept (usb_state s.operation g.next s.flash (landed a g.leaves s.«data»)) g.told a g.leaves
transfers_kept (given (finished reply)) sent s = refl
transfers_kept (refused number values) sent s = refl

pub kind_kept : (s : UsbState) → OfKind s.operation.kind (usb_turn s)
unfolding usb_turn
kind_kept s =
    let step = usb_step s.operation (length s.«data») 31 in
    subst (λ (k : Kind). OfKind k (usb_turn s)) (step_of_kept s.operation s.operation.next (length s.«data») 31)
    (transfers_kept step.told step.sent (usb_state step.next s.device s.flash s.«data»))
