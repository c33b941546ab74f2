-- What the finish of an operation tells is what its run ends in, whole or short: a run passes it on.
use Prim.Native.Nat.{ℕ, suc, ◌-◌, ◌<◌, ◌≤◌}
use mathlib.Core.Path.{◌≡◌, refl, ap, ◌∙◌}
use mathlib.Core.List.{List}
use lib.ListN.{length}
use Rattle.promise.specs.Told.{Told, given}
use Rattle.promise.specs.Run.{tells, Ran, follow, runs}
use Rattle.protocol_status.specs.declared.report.CommandStatus.{CommandStatus}
use Rattle.operation_finish.specs.Transfer.{whole, short}
use Rattle.operation_finish.specs.Reply.{Reply, moved}
use Rattle.operation_finish.specs.Finish.{finishes}
use Rattle.operation_finish.specs.Ended.{Ended}
use Rattle.operation_finish.proofs.Cases.{sectors_whole, sectors_short}
use Rattle.operation_finish.proofs.SectorFinish.{finish_ended}
use Rattle.operation.specs.declared.steps.Operation.TheVariants as operation
use Rattle.operation.specs.declared.steps.UsbOperation.{UsbOperation}
use Rattle.operation.specs.Record.{transfer_length}
use Rattle.mock_base.specs.Flash.{flash_sectors}
use Rattle.mock.specs.declared.device.MockState.{MockState}
use Rattle.run_turn.specs.Turn.{UsbState, usb_state}
use Rattle.run_operation.specs.declared.UsbRun.{UsbRun}
use Rattle.run_operation.specs.Run.{sector_data, usb_run}
use Rattle.run_operation.specs.Answers.{answer_end, RunMeets}
use Rattle.run_operation.proofs.Checks.{unrefused}
use Rattle.theorems.proofs.FromStatus.{finish_turn}

-- an operation at its finish, whatever its status is, at any record of a stand-in, with what a run checks and a step at least
module _ (op : UsbOperation) (here : op.next ≡ operation.Finish) (device : MockState) (flash bytes : List ℕ) (sectors : ℕ)
    (legal : flash_sectors (length flash) ≡ given sectors) (enough : sector_data op.kind (transfer_length op) ≤ length bytes) (budget : ℕ) (r : UsbRun)
    (after leaves : List ℕ) (meets : RunMeets r after leaves (usb_run (usb_state op device flash bytes) device.store_length (suc budget))) where
  abbrev its_finish : Told Reply
  its_finish = finishes op.kind op.command.tag (transfer_length op) op.command_bytes op.«data»

  -- PASSED ON
  pub run_tells_the_finish : answer_end r.answer r.beside ≡ tells its_finish
  unfolding runs follow
  run_tells_the_finish =
      let s = usb_state op device flash bytes in
      meets.tells ∙ ap (λ (x : Ran Reply UsbState). x.end) (unrefused s device.store_length (suc budget) sectors legal refl enough) ∙ rw (finish_turn s here) refl

  module _ (report : CommandStatus) (ended : Ended op.kind op.command.tag op.command_bytes report) where
    told_as : (t : Told Reply) → its_finish ≡ t → answer_end r.answer r.beside ≡ tells t
    told_as t e = run_tells_the_finish ∙ ap tells e

    pub run_tells_short : 0 < report.residue → report.residue ≤ transfer_length op
        → answer_end r.answer r.beside ≡ tells (given (moved (short (transfer_length op - report.residue) (transfer_length op))))
    run_tells_short some few =
        told_as _ (finish_ended op.kind op.command.tag (transfer_length op) op.command_bytes op.«data» report ended
        ∙ sectors_short (transfer_length op) report.residue some few)

    pub run_tells_whole : report.residue ≡ 0 → answer_end r.answer r.beside ≡ tells (given (moved (whole (transfer_length op))))
    run_tells_whole none =
        told_as _ (finish_ended op.kind op.command.tag (transfer_length op) op.command_bytes op.«data» report ended
        ∙ sectors_whole (transfer_length op) report.residue none)
