-- The record of an operation: its fresh start, and what a step or a giving changes of it.
use Rattle.std.specs.Prelude.{ℕ, min, List, ◌++◌, eqb, replicate, take}
use Rattle.promise.specs.Rules.{pick}
use Rattle.protocol.specs.CommandBytes.{command_bytes}
use Rattle.protocol.specs.declared.CommandBlock.{CommandBlock}
use Rattle.operation_finish.specs.declared.Kind.{Kind}
use Rattle.operation_finish.specs.declared.Kind.TheVariants as kind
use Rattle.operation.specs.declared.steps.Operation.{Operation}
use Rattle.operation.specs.declared.steps.Operation.TheVariants as operation
use Rattle.operation.specs.declared.steps.IOBytes.{IOBytes}
use Rattle.operation.specs.declared.steps.IOBytes.TheVariants as io
use Rattle.operation.specs.declared.steps.Asked.{Asked}
use Rattle.operation.specs.declared.steps.Asked.TheVariants as asked
use Rattle.operation.specs.declared.steps.UsbOperation.{UsbOperation}

-- the bytes that a status has, and those that a reply has room for
abbrev pub status_size : ℕ
status_size = 13

abbrev pub inband_size : ℕ
inband_size = 16

-- at the command, nothing received yet
abbrev pub fresh : Kind → CommandBlock → UsbOperation
fresh kind command = record {
  kind = kind;
  command = command;
  command_bytes = replicate status_size 0;
  «data» = replicate inband_size 0;
  next = operation.CommandBlock;
  asked = asked.Nothing;
}

-- sector operations have the caller's data, all others the in-band bytes
abbrev pub io_of : Kind → IOBytes
io_of kind.ChipInfo = io.Inband
io_of kind.FlashId = io.Inband
io_of kind.FlashInfo = io.Inband
io_of kind.Capability = io.Inband
io_of kind.Nothing = io.Inband
io_of kind.Storage = io.Inband
io_of kind.Read = io.Read
io_of kind.Write = io.Write

-- the transfer length of the command
abbrev pub transfer_length : UsbOperation → ℕ
transfer_length op = op.command.transfer_length

-- a reply is as long as the transfer length, and never longer than its room
abbrev pub inband_length : UsbOperation → ℕ
inband_length op = min (transfer_length op) inband_size

-- "data if the transfer length isn't 0"
unfoldable pub after_command : ℕ → Operation
after_command length = pick (eqb length 0) operation.CommandStatus operation.IO

-- it stands at `next`, and has asked for `asked`
abbrev pub turned : UsbOperation → Operation → Asked → UsbOperation
turned op next asked = record {
  kind = op.kind;
  command = op.command;
  command_bytes = op.command_bytes;
  «data» = op.«data»;
  next = next;
  asked = asked;
}

-- the status will be read over these 13 bytes, and nothing is asked for
abbrev pub with_status : UsbOperation → List ℕ → UsbOperation
with_status op bytes = record {
  kind = op.kind;
  command = op.command;
  command_bytes = bytes;
  «data» = op.«data»;
  next = op.next;
  asked = asked.Nothing;
}

-- these are the in-band bytes, and nothing is asked for
abbrev pub with_inband : UsbOperation → List ℕ → UsbOperation
with_inband op bytes = record {
  kind = op.kind;
  command = op.command;
  command_bytes = op.command_bytes;
  «data» = bytes;
  next = op.next;
  asked = asked.Nothing;
}

-- 24-30 zero
abbrev pub command_out : UsbOperation → List ℕ
command_out op = command_bytes op.command ++ replicate 7 0

-- the command is out: the status will be read over its first 13 bytes
abbrev pub commanded : UsbOperation → UsbOperation
commanded op = turned (with_status op (take status_size (command_bytes op.command))) (after_command (transfer_length op)) asked.Nothing

-- the steps from there to the finish, with it: "3 or 4 for an unrefused operation"
unfoldable pub left_at : Operation → ℕ → ℕ
left_at operation.CommandBlock l = pick (eqb l 0) 3 4
left_at operation.IO l = 3
left_at operation.CommandStatus l = 2
left_at operation.Finish l = 1

abbrev pub left : UsbOperation → ℕ
left op = left_at op.next (transfer_length op)
