-- The stand-in's status leaves nothing over, and before it is read an operation's bytes are no status. So no turn and no run at stand-ins ends in a
-- short transfer: whatever their records hold, whatever they are lent, at every budget, resumed or not.
use Prim.Native.Nat.{ℕ, zero, suc}
use mathlib.Core.Path.{◌≡◌, refl, ap, sym, subst, ◌∙◌}
use mathlib.Core.Bool.{false, not}
use mathlib.Core.Logic.{inl, inr}
use mathlib.Core.List.{List, [], ◌∷◌, ◌++◌, append_assoc}
use native.Mathlib.Omega.{arith}
use lib.Dec.{ltb}
use lib.ListN.{length, take, drop, get_or, replicate}
use Rattle.promise.specs.Told.{Told, given, refused, and_then}
use Rattle.promise.specs.Rules.{or_refuse}
use Rattle.promise.specs.Bytes.{front, high_first, low_first, from_low}
use Rattle.promise.specs.Run.{Turned, ends, goes, Ran, end_told, follow, runs}
use Rattle.promise.proofs.Outcome.{by_test, either_way}
use Rattle.protocol_codes.specs.Reading.{status_of}
use Rattle.protocol_codes.specs.declared.Status.{Status}
use Rattle.protocol_codes.specs.declared.Status.TheVariants.{SUCCESS}
use Rattle.protocol_bytes.specs.Signature.{usbs, same}
use Rattle.protocol.specs.CommandBytes.{command_bytes}
use Rattle.protocol.specs.declared.CommandBlock.{CommandBlock}
use Rattle.protocol_status.specs.StatusBytes.{status_bytes, report_of, read_status}
use Rattle.protocol_status.specs.declared.report.CommandStatus.{CommandStatus}
use Rattle.operation_finish.specs.declared.Kind.{Kind}
use Rattle.operation_finish.specs.declared.ShortTransfer.{ShortTransfer}
use Rattle.operation_finish.specs.declared.SectorTransfer.TheVariants.{Short}
use Rattle.operation_finish.specs.Reply.{Reply, NotShort}
use Rattle.operation_finish.specs.Finish.{finishes}
use Rattle.operation_finish.proofs.Transfers.{short_only}
use Rattle.operation_finish.proofs.SectorFinish.{finish_sectors}
use Rattle.operation_finish.specs.Reply.{reply_given, finish_told}
use Rattle.operation_finish.specs.declared.UsbReply.TheVariants as usb
use Rattle.operation_finish.specs.declared.Beside.{Beside}
use Rattle.operation.specs.declared.steps.Operation.{Operation}
use Rattle.operation.specs.declared.steps.Operation.TheVariants as operation
use Rattle.operation.specs.declared.steps.IOBytes.{IOBytes}
use Rattle.operation.specs.declared.steps.IOBytes.TheVariants as io
use Rattle.operation.specs.declared.steps.Asked.{Asked}
use Rattle.operation.specs.declared.steps.Asked.TheVariants as asked
use Rattle.operation.specs.declared.steps.UsbOperation.{UsbOperation}
use Rattle.operation.specs.Record.{fresh, io_of, transfer_length, inband_length, turned}
use Rattle.operation.specs.Step.{Step, stays, data_rule, finished_told, command_step, io_step, status_step, finish_step, step_of}
use Rattle.operation.specs.Give.{Give, keeps, give_of, usb_give}
use Rattle.operation.specs.Give as taking
use Rattle.mock_base.specs.Flash.{flash_sectors}
use Rattle.mock_table.specs.Turn.{refuses, done}
use Rattle.mock_table.specs.Turn as table
use Rattle.mock_table.specs.Table.{read_turn}
use Rattle.mock_effects.specs.Effects.{reply_bytes, buffer_after}
use Rattle.mock_effects.specs.Steps.{read_step_of, read_step_by}
use Rattle.mock.specs.declared.device.MockState.{MockState}
use Rattle.mock.specs.declared.device.MockStep.{MockStep}
use Rattle.mock.specs.Device.{session_of, read_bulk, MockMeets}
use Rattle.run_turn.specs.declared.UsbTurned.{UsbTurned}
use Rattle.run_turn.specs.Turn.{UsbState, usb_state, onward, buffer_for, gives, received, got, transfers, after, usb_turn}
use Rattle.run_turn.specs.Answers.{stop_told, turn_told, TurnMeets}
use Rattle.run_operation.specs.declared.UsbRun.{UsbRun}
use Rattle.run_operation.specs.Run.{run_rules, unstarted, usb_run}
use Rattle.run_operation.specs.Answers.{answer_end, RunMeets}
use Rattle.theorems.specs.OnStandIns.{NothingLeft, OnStandIns, begun, by_turn, by_run}
use Rattle.theorems.proofs.CallsThatEnd.{StatusRead, row_read}
use Rattle.std.specs.declared.result.Result.TheVariants.{Ok}
use Rattle.std.specs.declared.ops.ControlFlow.{ControlFlow}
use Rattle.std.specs.declared.ops.ControlFlow.TheVariants.{Continue, Break}
use Rattle.std.specs.Prelude.{Result}
use Rattle.run_operation.specs.declared.RunError.{RunError}
use Rattle.operation_finish.specs.declared.UsbReply.{UsbReply}
use Rattle.run_turn.specs.declared.StopError.{StopError}

-- a refusal is no transfer
pub refusal_not : (n : ℕ) (values : List ℕ) → NotShort (refused n values)
refusal_not n values s e = let z : ◌≡◌ {A = ℕ} 0 1 = cc in omega arith

-- a finish over such bytes is not short
finish_not : (k : Kind) (tag l : ℕ) (status inband : List ℕ) → NothingLeft status → NotShort (finishes k tag l status inband)
finish_not k tag l status inband none s e =
    let b = finish_sectors k tag l status inband (Short s) e in
    let some = (short_only l b.0.residue s b.2).0 in
    omega (arith, none b.0 b.1.read, some)

-- bytes with another signature
unsigned : (bytes : List ℕ) → same (take 4 bytes) usbs ≡ false → NothingLeft bytes
unfolding read_status or_refuse
unsigned bytes other report =
    by_test (λ (t : Told CommandStatus). t ≡ given report → report.residue ≡ 0) (ltb (length bytes) 13)
    (λ few e. let z : ◌≡◌ {A = ℕ} 0 1 = cc in absurd (omega arith))
    (λ enough e. let f : refused 6 (take 4 bytes) ≡ given report = rw other at e in let z : ◌≡◌ {A = ℕ} 0 1 = cc in absurd (omega arith))

fresh_left : NothingLeft (replicate 13 0)
unfolding same
fresh_left = unsigned (replicate 13 0) refl

command_left : (c : CommandBlock) → NothingLeft (take 13 (command_bytes c))
unfolding same command_bytes high_first low_first
command_left c = unsigned (take 13 (command_bytes c)) refl

-- the status of a stand-in, with any tag and anything behind it
status_residue : (bytes : List ℕ) (t : Told Status) (report : CommandStatus) → and_then t (λ (status : Status). given (report_of bytes status)) ≡ given report
    → report.residue ≡ (report_of bytes SUCCESS).residue
unfolding and_then report_of
status_residue bytes (given status) report e = let same-report : report ≡ report_of bytes status = cc in ap (λ (r : CommandStatus). r.residue) same-report
status_residue bytes (refused n values) report e = let z : ◌≡◌ {A = ℕ} 0 1 = cc in absurd (omega arith)

by_residue : (bytes : List ℕ) → (report_of bytes SUCCESS).residue ≡ 0 → NothingLeft bytes
unfolding read_status or_refuse
by_residue bytes none report =
    by_test (λ (t : Told CommandStatus). t ≡ given report → report.residue ≡ 0) (ltb (length bytes) 13)
    (λ few e. let z : ◌≡◌ {A = ℕ} 0 1 = cc in absurd (omega arith))
    (λ enough. by_test (λ (t : Told CommandStatus). t ≡ given report → report.residue ≡ 0) (not (same (take 4 bytes) usbs))
    (λ other e. let z : ◌≡◌ {A = ℕ} 0 1 = cc in absurd (omega arith))
    (λ own e. status_residue bytes (status_of (get_or bytes 12 0)) report e ∙ none))

abbrev stand_ins : ℕ → Status → List ℕ
stand_ins tag pending = status_bytes (record { tag = tag; residue = 0; status = pending })

status_left : (tag : ℕ) (pending : Status) (rest : List ℕ) → NothingLeft (stand_ins tag pending ++ rest)
unfolding status_bytes high_first low_first report_of from_low
status_left tag pending rest = by_residue (stand_ins tag pending ++ rest) refl

-- a read of 13 bytes that a stand-in answers is its status, at every record, lent any flash and any buffer
module _ (device : MockState) (flash buffer : List ℕ) where
  abbrev Shown : List ℕ → Type 0
  Shown leaves = (tag : ℕ) × (pending : Status) × (leaves ≡ front (stand_ins tag pending) buffer)

  by_row : (t : table.Turn) → StatusRead device.variety device.last_reset t → t.told ≡ given tt → Shown (buffer_after device.config t.effect flash buffer)
  unfolding refuses done buffer_after reply_bytes
  by_row t (inl refusal) e =
      let f : refused refusal.0 refusal.1 ≡ given tt = ap (λ (x : table.Turn). x.told) (sym refusal.2) ∙ e in
      let z : ◌≡◌ {A = ℕ} 0 1 = cc in absurd (omega arith)
  by_row t (inr status) e = (status.0, status.1, ap (λ (x : table.Turn). buffer_after device.config x.effect flash buffer) status.2)

  module _ (long : length buffer ≡ 13) where
    by_flash : (t : Told ℕ) → (read_step_of t device.variety (session_of device) device.config flash buffer).told ≡ given tt
        → Shown (read_step_of t device.variety (session_of device) device.config flash buffer).leaves
    unfolding read_step_of
    by_flash (given sectors) e =
        by_row _ (subst (λ (n : ℕ). StatusRead device.variety device.last_reset (read_turn device.variety (session_of device) sectors n)) (sym long) (row_read device.variety device.last_reset device.current_command sectors)) e
    by_flash (refused n values) e = let z : ◌≡◌ {A = ℕ} 0 1 = cc in absurd (omega arith)

    status_shown : (read_bulk device flash buffer).told ≡ given tt → Shown (read_bulk device flash buffer).leaves
    unfolding read_bulk read_step_by
    status_shown e = by_flash (flash_sectors (length flash)) e

    -- RESIDUE 0. For any caller of `read_bulk`: what a stand-in leaves in 13 bytes is no status that leaves something over
    pub stand_in_leaves_nothing : (r : MockStep) (after : List ℕ) → MockMeets r after (read_bulk device flash buffer) → (read_bulk device flash buffer).told ≡ given tt
        → NothingLeft after
    stand_in_leaves_nothing r after m e =
        let shown = status_shown e in
        subst NothingLeft (sym (m.leaves ∙ shown.2)) (status_left shown.0 shown.1 (drop (length (stand_ins shown.0 shown.1)) buffer))

abbrev given_bytes : ℕ → Status → List ℕ
given_bytes tag pending = front (stand_ins tag pending) (replicate 13 0)

-- what a giving leaves of an operation's bytes: they are as they were unless a status was asked for
module _ (op : UsbOperation) (bytes : List ℕ) (lent : ℕ) where
  abbrev Kept : Give → Type 0
  Kept g = g.next.command_bytes ≡ op.command_bytes

  received_keeps : (a : Asked) → (a ≡ asked.Status → ⊥) → Kept (taking.received a op bytes)
  unfolding taking.received
  received_keeps asked.Nothing h = refl
  received_keeps asked.Inband h = refl
  received_keeps asked.Sectors h = refl
  received_keeps asked.Status h = absurd (h refl)

  give_keeps_bytes : (op.asked ≡ asked.Status → ⊥) → Kept (usb_give op bytes lent)
  unfolding give_of
  give_keeps_bytes h = either_way Kept (keeps op) _ (taking.received op.asked op bytes) (λ n values. refl) (λ met. received_keeps op.asked h)

-- a turn goes on with an operation whose bytes leave nothing over, or ends in no short transfer and hands such an operation back
abbrev Left : UsbState → Type 0
Left s = NothingLeft s.operation.command_bytes

abbrev Turns : Turned Reply UsbState → Type 0
Turns (goes s) = Left s
Turns (ends told s) = NotShort told × Left s

onward_turns : (told : Told Unit) (s : UsbState) → Left s → Turns (onward told s)
unfolding onward
onward_turns (given done) s left = left
onward_turns (refused n values) s left = (refusal_not n values, left)

received_turns : (told : Told Unit) (a : Asked) (s : UsbState) (bytes : List ℕ) → Left s → (told ≡ given tt → Left (gives a s bytes)) → Turns (received told a s bytes)
unfolding received
received_turns (given done) a s bytes left given-left = given-left refl
received_turns (refused n values) a s bytes left given-left = (refusal_not n values, left)

-- what is given for data
gives_left : (a : Asked) (s : UsbState) (bytes : List ℕ) → (s.operation.asked ≡ asked.Status → ⊥) → Left s → Left (gives a s bytes)
unfolding gives
gives_left asked.Nothing s bytes other left = subst NothingLeft (sym (give_keeps_bytes s.operation bytes 0 other)) left
gives_left asked.Inband s bytes other left = subst NothingLeft (sym (give_keeps_bytes s.operation bytes 0 other)) left
gives_left asked.Sectors s bytes other left = subst NothingLeft (sym (give_keeps_bytes s.operation [] (length s.«data») other)) left
gives_left asked.Status s bytes other left = subst NothingLeft (sym (give_keeps_bytes s.operation bytes 0 other)) left

-- what is given for a status
status_given : (op : UsbOperation) (tag : ℕ) (pending : Status) (bytes : List ℕ) → bytes ≡ given_bytes tag pending → op.asked ≡ asked.Status → NothingLeft op.command_bytes
    → NothingLeft (usb_give op bytes 0).next.command_bytes
unfolding give_of taking.received
status_given op tag pending bytes e status left =
    either_way (λ (g : Give). NothingLeft g.next.command_bytes) (keeps op) _ (taking.received op.asked op bytes) (λ n values. left)
    (λ met.
    let behind : List ℕ = drop (length (stand_ins tag pending)) (replicate 13 0) in
    let rest = drop (length (given_bytes tag pending)) op.command_bytes in
    rw (status, e) (subst NothingLeft (sym (append_assoc (stand_ins tag pending) behind rest)) (status_left tag pending (behind ++ rest))))

module _ (s : UsbState) (left : Left s) where
  -- a step that leaves the operation's bytes as they are
  abbrev now : Operation → Asked → UsbState
  now next a = usb_state (turned s.operation next a) s.device s.flash s.«data»

  data_read : (a : Asked) (n : ℕ) → (a ≡ asked.Status → ⊥) → Turns (got a (now operation.CommandStatus a) (read_bulk s.device s.flash (buffer_for a n (now operation.CommandStatus a))))
  data_read a n other = received_turns _ a _ _ left (λ e. gives_left a _ _ other left)

  io_turns : (at : IOBytes) → Turns (after (io_step at s.operation (length s.«data»)) s)
  unfolding io_step transfers
  io_turns io.Inband = data_read asked.Inband (inband_length s.operation) (λ f. let z : ◌≡◌ {A = ℕ} 0 1 = cc in omega arith)
  io_turns io.Read =
      either_way (λ (x : Step). Turns (after x s)) (stays s.operation) (data_rule (length s.«data») (transfer_length s.operation) ∷ []) _
      (λ n values. (refusal_not n values, left))
      (λ met. data_read asked.Sectors (transfer_length s.operation) (λ f. let z : ◌≡◌ {A = ℕ} 0 1 = cc in omega arith))
  io_turns io.Write =
      either_way (λ (x : Step). Turns (after x s)) (stays s.operation) (data_rule (length s.«data») (transfer_length s.operation) ∷ []) _
      (λ n values. (refusal_not n values, left))
      (λ met. onward_turns _ _ left)

  finish_turns : (t : Told Reply) → NotShort t → Turns (transfers (finished_told t) [] (now operation.CommandBlock asked.Nothing))
  unfolding transfers finished_told and_then
  finish_turns (given r) not = (not, left)
  finish_turns (refused n values) not = (not, left)

  step_turns : (here : Operation) → Turns (after (step_of here s.operation (length s.«data») 31) s)
  unfolding step_of command_step or_refuse status_step finish_step transfers buffer_for gives
  step_turns operation.CommandBlock = onward_turns _ _ (command_left s.operation.command)
  step_turns operation.IO = io_turns (io_of s.operation.kind)
  step_turns operation.CommandStatus =
      received_turns _ asked.Status _ _ left
      (λ e. let shown = status_shown s.device s.flash (replicate 13 0) refl e in status_given (turned s.operation operation.Finish asked.Status) shown.0 shown.1 _ shown.2 refl left)
  step_turns operation.Finish =
      let op = s.operation in
      finish_turns (finishes op.kind op.command.tag (transfer_length op) op.command_bytes op.«data»)
      (finish_not op.kind op.command.tag (transfer_length op) op.command_bytes op.«data» left)

  turn_turns : Turns (usb_turn s)
  unfolding usb_turn
  turn_turns = step_turns s.operation.next

-- a run
abbrev Runs : Ran Reply UsbState → Type 0
Runs r = NotShort (end_told r.end) × Left r.state

followed : (budget : ℕ) (t : Turned Reply UsbState) → Turns t → ((next : UsbState) → Left next → Runs (runs usb_turn budget next))
    → Runs (follow t (λ next. runs usb_turn budget next))
unfolding follow end_told
followed budget (ends told s) turns ih = turns
followed budget (goes s) turns ih = ih s turns

turns_run : (budget : ℕ) (s : UsbState) → Left s → Runs (runs usb_turn budget s)
unfolding runs end_told
turns_run zero s left = (refusal_not 28 [], left)
turns_run (suc budget) s left = followed budget (usb_turn s) (turn_turns s left) (λ next. turns_run budget next)

checked_run : (s : UsbState) (store budget : ℕ) → Left s → Runs (usb_run s store budget)
unfolding usb_run end_told
checked_run s store budget left =
    either_way Runs (unstarted s) (run_rules s store) (runs usb_turn budget s) (λ n values. (refusal_not n values, left)) (λ met. turns_run budget s left)

-- what a turn hands back, by its answer
turn_left : (x : ControlFlow (Result UsbReply StopError) Unit) (b : Beside) (s : UsbState) → Turns (turn_told x b s) → Left s
unfolding turn_told
turn_left (Continue u) b s turns = turns
turn_left (Break stop) b s turns = turns.1

turn_not : (x : ControlFlow (Result UsbReply StopError) Unit) (b : Beside) (s : UsbState) (stop : Result UsbReply StopError) → x ≡ Break stop → Turns (turn_told x b s) → NotShort (stop_told stop b)
unfolding turn_told
turn_not x b s stop e turns = (subst (λ (y : ControlFlow (Result UsbReply StopError) Unit). Turns (turn_told y b s)) e turns).0

-- any operation that only stand-ins have answered
stands_left : (start op : UsbOperation) → NothingLeft start.command_bytes → OnStandIns start op → NothingLeft op.command_bytes
stands_left start _ left begun = left
stands_left start _ left (by_turn op device flash bytes after leaves r on m) =
    let s = usb_state op device flash bytes in
    turn_left r.turn r.beside _ (subst Turns (sym m.tells) (turn_turns s (stands_left start op left on)))
stands_left start _ left (by_run op device flash bytes after leaves store budget r on m) =
    let s = usb_state op device flash bytes in
    subst Left (sym m.leaves) (checked_run s store budget (stands_left start op left on)).1

-- NEVER SHORT. From any fresh start, at any stand-in, lent anything: no turn and no run of any budget ends in a short transfer, whatever turns and
-- runs came before it
module _ (k : Kind) (c : CommandBlock) (op : UsbOperation) (on : OnStandIns (fresh k c) op) (device : MockState) (flash bytes after leaves : List ℕ) where
  its_left : NothingLeft op.command_bytes
  its_left = stands_left (fresh k c) op fresh_left on

  pub turn_never_short : (r : UsbTurned) → TurnMeets r after leaves (usb_turn (usb_state op device flash bytes)) → (s : ShortTransfer)
      → r.turn ≡ Break (Ok (usb.Sectors (Short s))) → ⊥
  unfolding stop_told finish_told reply_given
  turn_never_short r m s e =
      turn_not r.turn r.beside _ (Ok (usb.Sectors (Short s))) e
      (subst Turns (sym m.tells) (turn_turns (usb_state op device flash bytes) its_left)) s refl

  pub run_never_short : (store budget : ℕ) (r : UsbRun) → RunMeets r after leaves (usb_run (usb_state op device flash bytes) store budget) → (s : ShortTransfer)
      → r.answer ≡ Ok (usb.Sectors (Short s)) → ⊥
  unfolding answer_end stop_told finish_told reply_given end_told
  run_never_short store budget r m s e =
      (checked_run (usb_state op device flash bytes) store budget its_left).0 s
      (ap end_told (sym m.tells ∙ ap (λ (a : Result UsbReply RunError). answer_end a r.beside) e))

-- the same of what a run is by its definition, at its start
pub fresh_never_short : (k : Kind) (c : CommandBlock) (device : MockState) (flash bytes : List ℕ) (store budget : ℕ)
    → NotShort (end_told (usb_run (usb_state (fresh k c) device flash bytes) store budget).end)
fresh_never_short k c device flash bytes store budget = (checked_run (usb_state (fresh k c) device flash bytes) store budget fresh_left).0
