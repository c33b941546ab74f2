-- Whole runs from their starts, and the control write that each transfer of an upload is.
use Rattle.std.specs.Prelude.{ℕ, List, length, replicate}
use Rattle.maskrom.specs.Whole.{fresh_whole}
use Rattle.mock.specs.declared.device.MockState.{MockState}
use Rattle.mock.specs.Device.{Call, write_control}
use Rattle.promise.specs.Run.{Ran}
use Rattle.run_upload.specs.Load.{LoadState, load_state, load_run}
use Rattle.protocol.specs.declared.CommandBlock.{CommandBlock}
use Rattle.operation_finish.specs.Reply.{Reply}
use Rattle.operation_finish.specs.declared.Kind.{Kind}
use Rattle.operation.specs.Record.{fresh}
use Rattle.run_turn.specs.Turn.{UsbState, usb_state}
use Rattle.run_operation.specs.Run.{usb_run, whole_budget}
use Rattle.promise.specs.Told.{given}
use Rattle.promise.specs.Bytes.{front}
use Rattle.protocol_codes.specs.declared.Status as status
use Rattle.protocol_status.specs.StatusBytes.{status_bytes}
use Rattle.operation.specs.declared.steps.Operation.TheVariants as operation
use Rattle.operation.specs.declared.steps.Asked.TheVariants as asked
use Rattle.operation.specs.Record.{turned, with_status}
use Rattle.mock_table.specs.Turn.{session}
use Rattle.mock_table.specs.declared.session.CommandState.TheVariants.{None}
use Rattle.mock.specs.Device.{with_session}

-- the control write of a transfer: "type 0x40, request 0xc, value 0, index the area"
abbrev pub written : MockState → ℕ → List ℕ → List ℕ → Call
written device area bytes store = write_control device 0x40 0xc 0 area bytes store

-- the run of an upload from its start
abbrev pub upload_run : ℕ → List ℕ → ℕ → MockState → List ℕ → ℕ → Ran Unit LoadState
upload_run area image flash device store budget = load_run image flash budget (load_state (fresh_whole area (length image)) device store)

-- one whole operation from its start
abbrev pub operation_run : Kind → CommandBlock → MockState → List ℕ → List ℕ → ℕ → Ran Reply UsbState
operation_run k c device flash bytes store = usb_run (usb_state (fresh k c) device flash bytes) store whole_budget

-- an accepted control write that leaves the device and the store so
abbrev pub accepts : MockState → List ℕ → Call
accepts next leaves = record { told = given tt; next = next; leaves = leaves }

-- the status that a stand-in gives, and what it leaves of the bytes that an operation reads it into
abbrev pub status_into : ℕ → status.Status → List ℕ → List ℕ
status_into tag pending held = front (front (status_bytes (record { tag = tag; residue = 0; status = pending })) (replicate 13 0)) held

-- an operation that has read such a status and finished, and so starts again at its command; the device has no transaction
abbrev pub rearmed : UsbState → ℕ → status.Status → UsbState
rearmed s tag pending =
    usb_state
    (turned (with_status (turned s.operation operation.Finish asked.Status) (status_into tag pending s.operation.command_bytes))
    operation.CommandBlock asked.Nothing)
    (with_session s.device (session None s.device.last_reset))
    s.flash s.«data»
