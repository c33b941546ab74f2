-- What holds of every record that calls from a fresh start can make.
use Prim.Native.Nat.{ℕ, ◌≤◌}
use mathlib.Core.Path.{◌≡◌, refl, ap, sym, subst, ◌∙◌}
use mathlib.Core.Logic.{inl, inr}
use mathlib.Core.Bool.{Bool, true, false}
use mathlib.Core.List.{List}
use native.Mathlib.Omega.{arith}
use borrow.Author.Tests.{ltb-false}
use lib.Dec.{eqb}
use lib.ListN.{length, length-take, length-append, length-drop}
use Rattle.promise.specs.Told.{Told, given, refused, and_then}
use Rattle.promise.specs.Rules.{pick}
use Rattle.promise.proofs.Outcome.{either_way}
use Rattle.protocol_codes.specs.declared.ResetOpcode.{ResetOpcode}
use Rattle.protocol_codes.specs.declared.StorageIndex.{StorageIndex}
use Rattle.protocol.specs.declared.CommandBlock.{CommandBlock}
use Rattle.protocol.specs.Commands.{chip_info_command, flash_id_command, flash_info_command, capability_command, storage_command, erase_lba_command, erase_force_command, read_lba_command, write_lba_command, reset_command, switch_command}
use Rattle.operation_finish.specs.Reply.{Reply}
use Rattle.operation_finish.specs.Finish.{finishes}
use Rattle.operation_finish.specs.declared.Kind.{Kind}
use Rattle.operation_finish.specs.declared.Kind.TheVariants as kind
use Rattle.operation.specs.declared.steps.Operation.{Operation}
use Rattle.operation.specs.declared.steps.Operation.TheVariants as operation
use Rattle.operation.specs.declared.steps.IOBytes.{IOBytes}
use Rattle.operation.specs.declared.steps.IOBytes.TheVariants as io
use Rattle.operation.specs.declared.steps.Asked.{Asked}
use Rattle.operation.specs.declared.steps.Asked.TheVariants as asked
use Rattle.operation.specs.declared.steps.UsbOperation.{UsbOperation}
use Rattle.operation.specs.declared.steps.UsbStepped.{UsbStepped}
use Rattle.operation.specs.declared.giving.UsbGiven.{UsbGiven}
use Rattle.operation.specs.declared.starts.UsbStart.{UsbStart}
use Rattle.operation.specs.Record.{fresh, io_of, transfer_length, after_command, turned, commanded}
use Rattle.operation.specs.Step.{Step, stays, command_step, io_step, status_step, finished_told, finish_step, step_of, usb_step, step_told, StepMeets}
use Rattle.operation.specs.Give.{Give, keeps, nothing_asked, asks_for, received, give_of, usb_give, giving_told, GiveMeets}
use Rattle.operation.specs.Start.{StartMeets}
use Rattle.operation.specs.Made.{kind_direction, Agrees, Starts, chip_info_lem, flash_id_lem, flash_info_lem, capability, storage, erase_lba_lem, erase_force_lem, reset_device_lem, switch_storage_lem, read_lba_lem, write_lba_lem, Made, at_first, stepped, gave, read_by, MayAsk, Stands, asked_in, just_asked}
use Rattle.operation.proofs.Cases.{command_bytes_long}
use Rattle.std.specs.declared.result.Result.TheVariants.{Ok}

-- what each start's contract says of the record that it hands out
pub eleven_starts : (r : UsbOperation) (s : UsbStart) (tag first count size : ℕ) (opcode : ResetOpcode) (index : StorageIndex)
    → (r ≡ fresh kind.ChipInfo (chip_info_command tag) → Starts r)
    × (r ≡ fresh kind.FlashId (flash_id_command tag) → Starts r)
    × (r ≡ fresh kind.FlashInfo (flash_info_command tag) → Starts r)
    × (r ≡ fresh kind.Capability (capability_command tag) → Starts r)
    × (r ≡ fresh kind.Storage (storage_command tag) → Starts r)
    × (r ≡ fresh kind.Nothing (erase_lba_command tag first count) → Starts r)
    × (r ≡ fresh kind.Nothing (erase_force_command tag first count) → Starts r)
    × (r ≡ fresh kind.Nothing (reset_command tag opcode) → Starts r)
    × (r ≡ fresh kind.Nothing (switch_command tag index) → Starts r)
    × (StartMeets s kind.Read (read_lba_command tag first) size → Starts s.operation)
    × (StartMeets s kind.Write (write_lba_command tag first) size → Starts s.operation)
eleven_starts r s tag first count size opcode index = (
  (λ e. rw e (chip_info_lem tag)),
  (λ e. rw e (flash_id_lem tag)),
  (λ e. rw e (flash_info_lem tag)),
  (λ e. rw e (capability tag)),
  (λ e. rw e (storage tag)),
  (λ e. rw e (erase_lba_lem tag first count)),
  (λ e. rw e (erase_force_lem tag first count)),
  (λ e. rw e (reset_device_lem tag opcode)),
  (λ e. rw e (switch_storage_lem tag index)),
  (λ m. rw m.operation (read_lba_lem tag first size)),
  (λ m. rw m.operation (write_lba_lem tag first size)),
)

clash : {A : Type 0} → ◌≡◌ {A = ℕ} 0 1 → A
clash z = absurd (omega arith)

-- each of the eleven has the direction of its kind, and those that end with nothing have no data
pub starts_agree : (op : UsbOperation) → Starts op → Agrees op.kind op.command
unfolding kind_direction
starts_agree _ (chip_info_lem tag) = record { direction = refl; none = λ e. clash cc }
starts_agree _ (flash_id_lem tag) = record { direction = refl; none = λ e. clash cc }
starts_agree _ (flash_info_lem tag) = record { direction = refl; none = λ e. clash cc }
starts_agree _ (capability tag) = record { direction = refl; none = λ e. clash cc }
starts_agree _ (storage tag) = record { direction = refl; none = λ e. clash cc }
starts_agree _ (erase_lba_lem tag first count) = record { direction = refl; none = λ e. refl }
starts_agree _ (erase_force_lem tag first count) = record { direction = refl; none = λ e. refl }
starts_agree _ (reset_device_lem tag opcode) = record { direction = refl; none = λ e. refl }
starts_agree _ (switch_storage_lem tag index) = record { direction = refl; none = λ e. refl }
starts_agree _ (read_lba_lem tag first size) = record { direction = refl; none = λ e. clash cc }
starts_agree _ (write_lba_lem tag first size) = record { direction = refl; none = λ e. clash cc }

-- each is a fresh record
pub starts_fresh : (op : UsbOperation) → Starts op → op ≡ fresh op.kind op.command
starts_fresh _ (chip_info_lem tag) = refl
starts_fresh _ (flash_id_lem tag) = refl
starts_fresh _ (flash_info_lem tag) = refl
starts_fresh _ (capability tag) = refl
starts_fresh _ (storage tag) = refl
starts_fresh _ (erase_lba_lem tag first count) = refl
starts_fresh _ (erase_force_lem tag first count) = refl
starts_fresh _ (reset_device_lem tag opcode) = refl
starts_fresh _ (switch_storage_lem tag index) = refl
starts_fresh _ (read_lba_lem tag first size) = refl
starts_fresh _ (write_lba_lem tag first size) = refl

fresh_stands : (k : Kind) (command : CommandBlock) → Agrees k command → Stands (fresh k command) (fresh k command)
unfolding MayAsk
fresh_stands k command agrees =
    record {
      kind = refl;
      command = refl;
      status_room = refl;
      inband_room = refl;
      asks = refl;
      moves = λ e. clash cc;
      agrees = agrees;
    }

after_asks : (none : Bool) (here : IOBytes) (l : ℕ) → MayAsk (pick none operation.CommandStatus operation.IO) here l asked.Nothing
unfolding MayAsk
after_asks true here l = inl refl
after_asks false here l = refl

after_moves : (l : ℕ) → after_command l ≡ operation.IO → l ≡ 0 → ⊥
unfolding after_command
after_moves l e z = let f : operation.CommandStatus ≡ operation.IO = rw z at e in clash cc

may_nothing : (p : Operation) (here : IOBytes) (l : ℕ) → MayAsk p here l asked.Nothing
unfolding MayAsk
may_nothing operation.CommandBlock here l = refl
may_nothing operation.IO here l = refl
may_nothing operation.CommandStatus here l = inl refl
may_nothing operation.Finish here l = inl refl

finish_asks : (t : Told Reply) → asked.Nothing ≡ just_asked (finished_told t)
unfolding finished_told and_then just_asked asked_in
finish_asks (given reply) = refl
finish_asks (refused n values) = refl

module _ (start op : UsbOperation) (here : Stands start op) where
  -- the record at another place, with something else asked for
  turned_stands : (next : Operation) (a : Asked) → MayAsk next (io_of op.kind) (transfer_length op) a
      → (next ≡ operation.IO → transfer_length op ≡ 0 → ⊥) → Stands start (turned op next a)
  turned_stands next a asks moves =
      record {
        kind = here.kind;
        command = here.command;
        status_room = here.status_room;
        inband_room = here.inband_room;
        asks = asks;
        moves = moves;
        agrees = here.agrees;
      }

  commanded_stands : Stands start (commanded op)
  unfolding after_command
  commanded_stands =
      record {
        kind = here.kind;
        command = here.command;
        status_room = simp length-take (omega (arith, command_bytes_long op.command));
        inband_room = here.inband_room;
        asks = after_asks (eqb (transfer_length op) 0) (io_of op.kind) (transfer_length op);
        moves = after_moves (transfer_length op);
        agrees = here.agrees;
      }

  module _ (lent room : ℕ) where
    io_stands : (at : IOBytes) → io_of op.kind ≡ at → op.next ≡ operation.IO → Stands start (io_step at op lent).next
    unfolding io_step MayAsk read_by
    io_stands io.Inband e n =
        turned_stands operation.CommandStatus asked.Inband (inr (sym (ap read_by e), here.moves n)) (λ f. clash cc)
    io_stands io.Read e n =
        either_way (λ (s : Step). Stands start s.next) (stays op) _ _ (λ m values. here)
        (λ met. turned_stands operation.CommandStatus asked.Sectors (inr (sym (ap read_by e), here.moves n)) (λ f. clash cc))
    io_stands io.Write e n =
        either_way (λ (s : Step). Stands start s.next) (stays op) _ _ (λ m values. here)
        (λ met. turned_stands operation.CommandStatus asked.Nothing (inl refl) (λ f. clash cc))

    stands_at : (p : Operation) → op.next ≡ p → Stands start (step_of p op lent room).next
    unfolding step_of command_step status_step finish_step MayAsk
    stands_at operation.CommandBlock e =
        either_way (λ (s : Step). Stands start s.next) (stays op) _ _ (λ m values. here) (λ met. commanded_stands)
    stands_at operation.IO e = io_stands (io_of op.kind) refl e
    stands_at operation.CommandStatus e = turned_stands operation.Finish asked.Status (inr refl) (λ f. clash cc)
    stands_at operation.Finish e = turned_stands operation.CommandBlock asked.Nothing refl (λ f. clash cc)

    -- what was asked for before, at the places where nothing can be
    none_at_command : op.next ≡ operation.CommandBlock → op.asked ≡ asked.Nothing
    unfolding MayAsk
    none_at_command e = let asks : MayAsk operation.CommandBlock (io_of op.kind) (transfer_length op) op.asked = rw e at here.asks in asks

    none_at_data : op.next ≡ operation.IO → op.asked ≡ asked.Nothing
    unfolding MayAsk
    none_at_data e = let asks : MayAsk operation.IO (io_of op.kind) (transfer_length op) op.asked = rw e at here.asks in asks

    io_asks : (at : IOBytes) → op.next ≡ operation.IO → (io_step at op lent).next.asked ≡ just_asked (io_step at op lent).told
    unfolding io_step just_asked asked_in
    io_asks io.Inband n = refl
    io_asks io.Read n =
        either_way (λ (s : Step). s.next.asked ≡ just_asked s.told) (stays op) _ _ (λ m values. none_at_data n) (λ met. refl)
    io_asks io.Write n =
        either_way (λ (s : Step). s.next.asked ≡ just_asked s.told) (stays op) _ _ (λ m values. none_at_data n) (λ met. refl)

    asks_at : (p : Operation) → op.next ≡ p → (step_of p op lent room).next.asked ≡ just_asked (step_of p op lent room).told
    unfolding step_of command_step status_step finish_step just_asked asked_in
    asks_at operation.CommandBlock e =
        either_way (λ (s : Step). s.next.asked ≡ just_asked s.told) (stays op) _ _ (λ m values. none_at_command e) (λ met. refl)
    asks_at operation.IO e = io_asks (io_of op.kind) e
    asks_at operation.CommandStatus e = refl
    asks_at operation.Finish e =
        finish_asks (finishes op.kind op.command.tag (transfer_length op) op.command_bytes op.«data»)

  module _ (bytes : List ℕ) where
    received_stands : (a : Asked) → length bytes ≤ asks_for a op → Stands start (received a op bytes).next
    unfolding received asks_for
    received_stands asked.Nothing few = here
    received_stands asked.Inband few =
        record {
          kind = here.kind;
          command = here.command;
          status_room = here.status_room;
          inband_room = simp (length-append, length-drop) (omega (arith, here.inband_room));
          asks = may_nothing op.next (io_of op.kind) (transfer_length op);
          moves = here.moves;
          agrees = here.agrees;
        }
    received_stands asked.Sectors few =
        turned_stands op.next asked.Nothing (may_nothing op.next (io_of op.kind) (transfer_length op)) here.moves
    received_stands asked.Status few =
        record {
          kind = here.kind;
          command = here.command;
          status_room = simp (length-append, length-drop) (omega (arith, here.status_room));
          inband_room = here.inband_room;
          asks = may_nothing op.next (io_of op.kind) (transfer_length op);
          moves = here.moves;
          agrees = here.agrees;
        }

    give_stands : (lent : ℕ) → Stands start (usb_give op bytes lent).next
    unfolding give_of
    give_stands lent =
        either_way (λ (g : Give). Stands start g.next) (keeps op) _ (received op.asked op bytes) (λ m values. here)
        (λ met. received_stands op.asked (ltb-false (asks_for op.asked op) (length bytes) met.1.0))

-- every record that calls from a fresh start can make stands so
pub made_stands : (start op : UsbOperation) → Made start op → Stands start op
made_stands start _ (at_first s) =
    subst (λ (x : UsbOperation). Stands x x) (sym (starts_fresh start s)) (fresh_stands start.kind start.command (starts_agree start s))
made_stands start _ (stepped op r lent before after m meets) =
    rw meets.next (stands_at start op (made_stands start op m) (length lent) (length before) op.next refl)
made_stands start _ (gave op r bytes before after m meets) =
    rw meets.next (give_stands start op (made_stands start op m) bytes (length before))

-- what is asked for behind a step is what that step asked to be read: nothing, unless it did
pub asked_by_the_step : (start op : UsbOperation) → Made start op → (r : UsbStepped) (lent before after : List ℕ)
    → StepMeets r before after (usb_step op (length lent) (length before)) → r.next.asked ≡ just_asked (step_told r.step r.beside)
asked_by_the_step start op m r lent before after meets =
    ap (λ (o : UsbOperation). o.asked) meets.next
    ∙ asks_at start op (made_stands start op m) (length lent) (length before) op.next refl
    ∙ ap just_asked (sym meets.tells)

received_asks : (a : Asked) (op : UsbOperation) (bytes : List ℕ) → nothing_asked a ≡ false → (received a op bytes).next.asked ≡ asked.Nothing
unfolding received nothing_asked
received_asks asked.Nothing op bytes e = clash cc
received_asks asked.Inband op bytes e = refl
received_asks asked.Sectors op bytes e = refl
received_asks asked.Status op bytes e = refl

-- and behind a giving that was taken nothing, at every record
pub given_once : (op : UsbOperation) (r : UsbGiven) (bytes before after : List ℕ) → GiveMeets r before after (usb_give op bytes (length before))
    → r.answer ≡ (Ok tt) → r.next.asked ≡ asked.Nothing
unfolding give_of giving_told
given_once op r bytes before after meets taken =
    let told : (usb_give op bytes (length before)).told ≡ given tt = sym meets.tells ∙ ap giving_told taken in
    ap (λ (o : UsbOperation). o.asked) meets.next
    ∙ either_way (λ (g : Give). g.told ≡ given tt → g.next.asked ≡ asked.Nothing) (keeps op) _ (received op.asked op bytes)
    (λ m values e. clash cc) (λ met e. received_asks op.asked op bytes met.0) told
