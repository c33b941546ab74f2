-- The records that calls from a fresh start can make, and what holds of each of them.
use Rattle.std.specs.Prelude.{ℕ, ◌≡◌, ◌⊎◌, List, length}
use Rattle.promise.specs.Told.{Told, given, refused}
use Rattle.protocol_codes.specs.declared.Direction.{Direction}
use Rattle.protocol_codes.specs.declared.Direction.TheVariants.{In, Out}
use Rattle.protocol_codes.specs.declared.ResetOpcode.{ResetOpcode}
use Rattle.protocol_codes.specs.declared.StorageIndex.{StorageIndex}
use Rattle.protocol.specs.declared.CommandBlock.{CommandBlock}
use Rattle.protocol.specs.Commands.{chip_info_command, flash_id_command, flash_info_command, capability_command, storage_command, erase_lba_command, erase_force_command, read_lba_command, write_lba_command, reset_command, switch_command}
use Rattle.protocol_reply.specs.Sectors.{sectors_in}
use Rattle.operation_finish.specs.declared.Kind.{Kind}
use Rattle.operation_finish.specs.declared.Kind.TheVariants as kind
use Rattle.operation.specs.declared.steps.Operation.{Operation}
use Rattle.operation.specs.declared.steps.Operation.TheVariants as operation
use Rattle.operation.specs.declared.steps.IOBytes.{IOBytes}
use Rattle.operation.specs.declared.steps.IOBytes.TheVariants as io
use Rattle.operation.specs.declared.steps.Asked.{Asked}
use Rattle.operation.specs.declared.steps.Asked.TheVariants as asked
use Rattle.operation.specs.declared.steps.UsbOperation.{UsbOperation}
use Rattle.operation.specs.declared.steps.UsbStepped.{UsbStepped}
use Rattle.operation.specs.declared.giving.UsbGiven.{UsbGiven}
use Rattle.operation.specs.Record.{fresh, io_of, status_size, inband_size, transfer_length}
use Rattle.operation.specs.Step.{Asks, writes_command, writes_data, reads, finished, usb_step, StepMeets}
use Rattle.operation.specs.Give.{usb_give, GiveMeets}
use Rattle.operation.specs.Start.{sectors_or0}

-- which way the data of each kind goes; what ends with nothing moves none, and its commands say out
unfoldable pub kind_direction : Kind → Direction
kind_direction kind.ChipInfo = In
kind_direction kind.FlashId = In
kind_direction kind.FlashInfo = In
kind_direction kind.Capability = In
kind_direction kind.Nothing = Out
kind_direction kind.Storage = In
kind_direction kind.Read = In
kind_direction kind.Write = Out

-- a command has the direction of its operation's kind, and no data where that ends with nothing
pub record Agrees (k : Kind) (command : CommandBlock) : Type 0 where
  pub direction : command.flags ≡ kind_direction k
  pub none : k ≡ kind.Nothing → command.transfer_length ≡ 0

-- what the eleven starts hand out, beside a refusal too
pub data Starts : UsbOperation → Type 0 where
  chip_info_lem : (tag : ℕ) → Starts (fresh kind.ChipInfo (chip_info_command tag))
  flash_id_lem : (tag : ℕ) → Starts (fresh kind.FlashId (flash_id_command tag))
  flash_info_lem : (tag : ℕ) → Starts (fresh kind.FlashInfo (flash_info_command tag))
  capability : (tag : ℕ) → Starts (fresh kind.Capability (capability_command tag))
  storage : (tag : ℕ) → Starts (fresh kind.Storage (storage_command tag))
  erase_lba_lem : (tag first count : ℕ) → Starts (fresh kind.Nothing (erase_lba_command tag first count))
  erase_force_lem : (tag first count : ℕ) → Starts (fresh kind.Nothing (erase_force_command tag first count))
  reset_device_lem : (tag : ℕ) (opcode : ResetOpcode) → Starts (fresh kind.Nothing (reset_command tag opcode))
  switch_storage_lem : (tag : ℕ) (index : StorageIndex) → Starts (fresh kind.Nothing (switch_command tag index))
  read_lba_lem : (tag first size : ℕ) → Starts (fresh kind.Read (read_lba_command tag first (sectors_or0 (sectors_in size))))
  write_lba_lem : (tag first size : ℕ) → Starts (fresh kind.Write (write_lba_command tag first (sectors_or0 (sectors_in size))))

-- a record that calls make of this start: any number of `step` and `give` in any order, refused or not, with anything lent and given
pub data Made (start : UsbOperation) : UsbOperation → Type 0 where
  at_first : Starts start → Made start start
  stepped : (op : UsbOperation) (r : UsbStepped) (lent before after : List ℕ) → Made start op
      → StepMeets r before after (usb_step op (length lent) (length before)) → Made start r.next
  gave : (op : UsbOperation) (r : UsbGiven) (bytes before after : List ℕ) → Made start op
      → GiveMeets r before after (usb_give op bytes (length before)) → Made start r.next

-- what a data step asks to be read
unfoldable pub read_by : IOBytes → Asked
read_by io.Inband = asked.Inband
read_by io.Read = asked.Sectors
read_by io.Write = asked.Nothing

-- what is asked for at each place: the data between its step and the status, the status behind that, nothing at the command and at the data, and nothing
-- any more once it was given
unfoldable pub MayAsk : Operation → IOBytes → ℕ → Asked → Type 0
MayAsk operation.CommandBlock here length a = a ≡ asked.Nothing
MayAsk operation.IO here length a = a ≡ asked.Nothing
MayAsk operation.CommandStatus here length a = (a ≡ asked.Nothing) ⊎ ((a ≡ read_by here) × (length ≡ 0 → ⊥))
MayAsk operation.Finish here length a = (a ≡ asked.Nothing) ⊎ (a ≡ asked.Status)

-- what holds of a record that was made of this start
pub record Stands (start op : UsbOperation) : Type 0 where
  pub kind : op.kind ≡ start.kind
  pub command : op.command ≡ start.command
  pub status_room : length op.command_bytes ≡ status_size
  pub inband_room : length op.«data» ≡ inband_size
  pub asks : MayAsk op.next (io_of op.kind) (transfer_length op) op.asked
  pub moves : op.next ≡ operation.IO → transfer_length op ≡ 0 → ⊥
  pub agrees : Agrees op.kind op.command

-- what a step asks to be read, by what it tells
unfoldable pub asked_in : Asks → Asked
asked_in writes_command = asked.Nothing
asked_in (writes_data n) = asked.Nothing
asked_in (reads a n) = a
asked_in (finished reply) = asked.Nothing

unfoldable pub just_asked : Told Asks → Asked
just_asked (given asks) = asked_in asks
just_asked (refused n values) = asked.Nothing
