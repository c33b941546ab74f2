-- An operation that nothing but stand-ins has answered since its start.
use Rattle.std.specs.Prelude.{ℕ, ◌≡◌, List}
use Rattle.promise.specs.Told.{given}
use Rattle.protocol_status.specs.StatusBytes.{read_status}
use Rattle.protocol_status.specs.declared.report.CommandStatus.{CommandStatus}
use Rattle.operation.specs.declared.steps.UsbOperation.{UsbOperation}
use Rattle.mock.specs.declared.device.MockState.{MockState}
use Rattle.run_turn.specs.declared.UsbTurned.{UsbTurned}
use Rattle.run_turn.specs.Turn.{usb_state, usb_turn}
use Rattle.run_turn.specs.Answers.{TurnMeets}
use Rattle.run_operation.specs.declared.UsbRun.{UsbRun}
use Rattle.run_operation.specs.Run.{usb_run}
use Rattle.run_operation.specs.Answers.{RunMeets}

-- bytes that are no status, or one that leaves nothing over
abbrev pub NothingLeft : List ℕ → Type 0
NothingLeft bytes = (report : CommandStatus) → read_status bytes ≡ given report → report.residue ≡ 0

-- where turns and runs bring it, each at any record of a stand-in, lent anything, with any budget, ended or not
pub data OnStandIns (start : UsbOperation) : UsbOperation → Type 0 where
  begun : OnStandIns start start
  by_turn : (op : UsbOperation) (device : MockState) (flash bytes after leaves : List ℕ) (r : UsbTurned)
      → OnStandIns start op → TurnMeets r after leaves (usb_turn (usb_state op device flash bytes)) → OnStandIns start r.operation
  by_run : (op : UsbOperation) (device : MockState) (flash bytes after leaves : List ℕ) (store budget : ℕ) (r : UsbRun)
      → OnStandIns start op → RunMeets r after leaves (usb_run (usb_state op device flash bytes) store budget) → OnStandIns start r.operation
