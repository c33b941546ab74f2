-- For any caller of `step`, at any record: when the finish answers that a transfer was whole or short, read off the status that was given.
use Prim.Native.Nat.{ℕ, ◌-◌, ◌<◌, ◌≤◌}
use mathlib.Core.Path.{◌≡◌, refl, ap, sym, subst, ◌∙◌}
use mathlib.Core.List.{List}
use native.Mathlib.Omega.{arith}
use lib.Dec.{lit≤}
use lib.ListN.{length, take}
use Rattle.promise.specs.Told.{Told, given, refused, and_then}
use Rattle.promise.specs.Bytes.{front}
use Rattle.promise.proofs.Outcome.{either_way}
use Rattle.protocol_codes.specs.declared.Direction.TheVariants.{Out}
use Rattle.protocol_bytes.specs.Signature.{usbs}
use Rattle.protocol.specs.CommandBytes.{command_bytes}
use Rattle.protocol_status.specs.StatusBytes.{read_status, StatusFits}
use Rattle.protocol_reply.specs.declared.size.Transferred.{Transferred}
use Rattle.protocol_status.specs.declared.report.CommandStatus.{CommandStatus}
use Rattle.protocol_status.specs.declared.failure.UsbOperationError.TheVariants.{ReplyParseFailure}
use Rattle.operation_finish.specs.declared.Kind.TheVariants as kind
use Rattle.operation_finish.specs.declared.ShortTransfer.{ShortTransfer}
use Rattle.operation_finish.specs.declared.SectorTransfer.{SectorTransfer}
use Rattle.operation_finish.specs.declared.SectorTransfer.TheVariants.{Whole, Short}
use Rattle.operation_finish.specs.declared.UsbReply.TheVariants as usb
use Rattle.operation_finish.specs.Transfer.{bytes, whole, short}
use Rattle.operation_finish.specs.Reply.{Reply, moved, reply_given, finish_told}
use Rattle.operation_finish.specs.Finish.{sector_reply, finishes}
use Rattle.operation_finish.specs.Ended.{OverSectors, writing, Ended}
use Rattle.operation_finish.proofs.Transfers.{whole_only, short_only}
use Rattle.operation_finish.proofs.Cases.{sectors_14, sectors_whole, sectors_short}
use Rattle.operation_finish.proofs.SectorFinish.{finish_sectors, finish_ended}
use Rattle.operation.specs.declared.steps.Operation.{Operation}
use Rattle.operation.specs.declared.steps.Operation.TheVariants as operation
use Rattle.operation.specs.declared.steps.IOBytes.{IOBytes}
use Rattle.operation.specs.declared.steps.IOBytes.TheVariants as io
use Rattle.operation.specs.declared.steps.Asked.{Asked}
use Rattle.operation.specs.declared.steps.Asked.TheVariants as asked
use Rattle.operation.specs.declared.steps.UsbOperation.{UsbOperation}
use Rattle.operation.specs.declared.giving.UsbGiven.{UsbGiven}
use Rattle.operation.specs.declared.steps.UsbStep.TheVariants as step
use Rattle.operation.specs.declared.steps.UsbStepped.{UsbStepped}
use Rattle.operation.specs.Record.{io_of, transfer_length}
use Rattle.operation.specs.Step.{finished, Step, stays, finished_told, command_step, io_step, status_step, finish_step, step_of, usb_step, step_told, StepMeets}
use Rattle.operation.specs.Give.{Give, nothing_asked, asks_for, owed, received, give_of, usb_give, GiveMeets}
use Rattle.operation.specs.Short.{usbs_alone, nothing_moved}
use Rattle.operation.proofs.Cases.{give_taken}
use Rattle.operation.proofs.Short.{out_succeeds}
use Rattle.operation.proofs.Laws.{at_finish_lem}
use Rattle.operation.proofs.Unique.{step_for, step_for_lem}
use Rattle.std.specs.declared.result.Result.TheVariants.{Ok, Err}
use Rattle.std.specs.Prelude.{Result}
use Rattle.operation.specs.declared.steps.UsbStep.{UsbStep}
use Rattle.operation.specs.declared.steps.StepError.{StepError}
use Rattle.operation.specs.declared.steps.StepError.TheVariants as step_error

-- no other step answers a finish
abbrev Unfinished : Reply → Step → Type 0
Unfinished reply s = s.told ≡ given (finished reply) → ⊥

refused_unfinished : (reply : Reply) (op : UsbOperation) (n : ℕ) (values : List ℕ) → Unfinished reply (stays op n values)
refused_unfinished reply op n values e = let z : ◌≡◌ {A = ℕ} 0 1 = cc in omega arith

io_unfinished : (reply : Reply) (at : IOBytes) (op : UsbOperation) (lent : ℕ) → Unfinished reply (io_step at op lent)
unfolding io_step
io_unfinished reply io.Inband op lent = λ e. let z : ◌≡◌ {A = ℕ} 0 1 = cc in omega arith
io_unfinished reply io.Read op lent =
    either_way (Unfinished reply) (stays op) _ _ (refused_unfinished reply op) (λ met e. let z : ◌≡◌ {A = ℕ} 0 1 = cc in omega arith)
io_unfinished reply io.Write op lent =
    either_way (Unfinished reply) (stays op) _ _ (refused_unfinished reply op) (λ met e. let z : ◌≡◌ {A = ℕ} 0 1 = cc in omega arith)

at_the_finish : (here : Operation) (op : UsbOperation) (lent room : ℕ) (reply : Reply) → (step_of here op lent room).told ≡ given (finished reply) → here ≡ operation.Finish
unfolding step_of command_step status_step
at_the_finish operation.CommandBlock op lent room reply e =
    absurd (either_way (Unfinished reply) (stays op) _ _ (refused_unfinished reply op) (λ met f. let z : ◌≡◌ {A = ℕ} 0 1 = cc in omega arith) e)
at_the_finish operation.IO op lent room reply e = absurd (io_unfinished reply (io_of op.kind) op lent e)
at_the_finish operation.CommandStatus op lent room reply e = let z : ◌≡◌ {A = ℕ} 0 1 = cc in absurd (omega arith)
at_the_finish operation.Finish op lent room reply e = refl

finished_is : (t : Told Reply) (reply : Reply) → finished_told t ≡ given (finished reply) → t ≡ given reply
unfolding finished_told and_then
finished_is (given r) reply e = let same : r ≡ reply = cc in ap (λ (x : Reply). given x) same
finished_is (refused n values) reply e = let z : ◌≡◌ {A = ℕ} 0 1 = cc in absurd (omega arith)

module _ (op : UsbOperation) (lent : ℕ) (before after : List ℕ) (r : UsbStepped) (meets : StepMeets r before after (usb_step op lent (length before))) where
  abbrev its_finish : Told Reply
  its_finish = finishes op.kind op.command.tag (transfer_length op) op.command_bytes op.«data»

  told_finish : op.next ≡ operation.Finish → (usb_step op lent (length before)).told ≡ finished_told its_finish
  unfolding finish_step
  told_finish here = ap (λ (s : Step). s.told) (at_finish_lem op lent (length before) here)

  -- what is behind an answer that tells of sectors
  told_sectors : (transfer : SectorTransfer) → r.step ≡ Ok (step.Finished (usb.Sectors transfer))
      → (op.next ≡ operation.Finish) × (its_finish ≡ given (moved transfer))
  unfolding step_told finish_told reply_given finished_told and_then
  told_sectors transfer e =
      let told : (usb_step op lent (length before)).told ≡ given (finished (moved transfer)) =
      sym meets.tells ∙ ap (λ (x : Result UsbStep StepError). step_told x r.beside) e in
      let here = at_the_finish op.next op lent (length before) (moved transfer) told in
      (here, finished_is its_finish (moved transfer) (sym (told_finish here) ∙ told))

  -- SHORT only at the finish, behind a success with its own tag that leaves 1 byte at least and no more than was asked
  pub step_told_short : (s : ShortTransfer) → r.step ≡ Ok (step.Finished (usb.Sectors (Short s)))
      → (op.next ≡ operation.Finish) × (report : CommandStatus) × Ended op.kind op.command.tag op.command_bytes report
      × (0 < report.residue) × (report.residue ≤ transfer_length op) × (s.moved ≡ bytes (transfer_length op - report.residue)) × (s.asked ≡ bytes (transfer_length op))
  step_told_short s e =
      let told = told_sectors (Short s) e in
      let b = finish_sectors op.kind op.command.tag (transfer_length op) op.command_bytes op.«data» (Short s) told.1 in
      let only = short_only (transfer_length op) b.0.residue s b.2 in (told.0, b.0, b.1, only.0, only.1, only.2, only.3)

  -- WHOLE only at the finish, behind a success with its own tag that leaves nothing
  pub step_told_whole : (count : Transferred) → r.step ≡ Ok (step.Finished (usb.Sectors (Whole count)))
      → (op.next ≡ operation.Finish) × (report : CommandStatus) × Ended op.kind op.command.tag op.command_bytes report
      × (report.residue ≡ 0) × (count ≡ bytes (transfer_length op))
  step_told_whole count e =
      let told = told_sectors (Whole count) e in
      let b = finish_sectors op.kind op.command.tag (transfer_length op) op.command_bytes op.«data» (Whole count) told.1 in
      let only = whole_only (transfer_length op) b.0.residue count b.2 in (told.0, b.0, b.1, only.0, only.1)

  -- and always there
  module _ (here : op.next ≡ operation.Finish) (report : CommandStatus) (ended : Ended op.kind op.command.tag op.command_bytes report) where
    tells_as : (t : Told Reply) → sector_reply (transfer_length op) report.residue ≡ t → r.step ≡ step_for (finished_told t)
    tells_as t e =
        sym (step_for_lem r.step r.beside)
        ∙ ap step_for (meets.tells ∙ told_finish here ∙ ap finished_told (finish_ended op.kind op.command.tag (transfer_length op) op.command_bytes op.«data» report ended ∙ e))

    pub step_tells_short : 0 < report.residue → report.residue ≤ transfer_length op
        → r.step ≡ Ok (step.Finished (usb.Sectors (short (transfer_length op - report.residue) (transfer_length op))))
    unfolding finished_told and_then
    step_tells_short some few = tells_as _ (sectors_short (transfer_length op) report.residue some few)

    pub step_tells_whole : report.residue ≡ 0 → r.step ≡ Ok (step.Finished (usb.Sectors (whole (transfer_length op))))
    unfolding finished_told and_then
    step_tells_whole none = tells_as _ (sectors_whole (transfer_length op) report.residue none)

    pub step_tells_14 : transfer_length op < report.residue → r.step ≡ Err (step_error.Failed ReplyParseFailure)
    unfolding finished_told and_then
    step_tells_14 more = tells_as _ (sectors_14 (transfer_length op) report.residue more)

-- `USBS` alone for a status, for any caller of `give` and of `step`

-- given where a status was asked for, over the bytes of the command that went out
pub give_usbs_alone : (op : UsbOperation) (before after : List ℕ) (r : UsbGiven) → op.asked ≡ asked.Status
    → op.command_bytes ≡ take 13 (command_bytes op.command) → GiveMeets r before after (usb_give op usbs (length before))
    → r.next.command_bytes ≡ usbs_alone op.command
unfolding received nothing_asked asks_for owed
give_usbs_alone op before after r status out meets =
    ap (λ (o : UsbOperation). o.command_bytes) meets.next
    ∙ ap (λ (a : Asked). (give_of a op usbs (length before)).next.command_bytes) status
    ∙ ap (λ (g : Give). g.next.command_bytes) (give_taken asked.Status op usbs (length before) refl (lit≤ tt) (omega arith))
    ∙ ap (front usbs) out

-- the finish of a write of at least one sector then tells 0 of what was asked
pub step_usbs_alone : (op : UsbOperation) (lent : ℕ) (before after : List ℕ) (r : UsbStepped) → StepMeets r before after (usb_step op lent (length before))
    → op.next ≡ operation.Finish → op.kind ≡ kind.Write → op.command.flags ≡ Out → StatusFits (nothing_moved op.command)
    → op.command_bytes ≡ usbs_alone op.command → 0 < transfer_length op → r.step ≡ Ok (step.Finished (usb.Sectors (short 0 (transfer_length op))))
step_usbs_alone op lent before after r meets here write out fits alone some =
    let l = transfer_length op in
    let ended : Ended op.kind op.command.tag op.command_bytes (nothing_moved op.command) =
    record {
      sectors = subst OverSectors (sym write) writing;
      read = ap read_status alone ∙ out_succeeds op.command out fits;
      succeeds = refl;
      its_tag = refl;
    } in
    let none : l - l ≡ 0 = omega arith in
    step_tells_short op lent before after r meets here (nothing_moved op.command) ended some (omega arith)
    ∙ ap (λ (n : ℕ). Ok (step.Finished (usb.Sectors (short n l)))) none
