-- What a run may be told from its start.
use Rattle.std.specs.Prelude.{ℕ, ◌*◌, ◌<◌, ◌≤◌, ◌^◌, List, []}
use Rattle.promise.specs.Told.{Told, given, refused}
use Rattle.protocol_codes.specs.declared.ResetOpcode.{ResetOpcode}
use Rattle.protocol_codes.specs.declared.StorageIndex.{StorageIndex}
use Rattle.protocol_bytes.specs.Sector.{sector_size}
use Rattle.protocol.specs.declared.CommandBlock.{CommandBlock}
use Rattle.protocol.specs.Commands.{chip_info_command, flash_id_command, flash_info_command, capability_command, storage_command, erase_lba_command, erase_force_command, read_lba_command, write_lba_command, reset_command, switch_command}
use Rattle.operation_finish.specs.Reply.{Reply}
use Rattle.operation_finish.specs.declared.Kind.{Kind}
use Rattle.operation_finish.specs.declared.Kind.TheVariants as kind
use Rattle.mock_base.specs.declared.cells.Variety.{Variety}
use Rattle.mock_base.specs.declared.cells.Variety.TheVariants.{First, Nor}
use Rattle.protocol_codes.specs.declared.Status as status
use Rattle.protocol_codes.specs.declared.Status.TheVariants.{SUCCESS, FAILED}

-- the eleven starts, with numbers that their commands can hold and so many bytes of data lent
pub data Started (lent : ℕ) : Kind → CommandBlock → Type 0 where
  chip_info_lem : (tag : ℕ) → tag < 256 ^ 4 → Started lent kind.ChipInfo (chip_info_command tag)
  flash_id_lem : (tag : ℕ) → tag < 256 ^ 4 → Started lent kind.FlashId (flash_id_command tag)
  flash_info_lem : (tag : ℕ) → tag < 256 ^ 4 → Started lent kind.FlashInfo (flash_info_command tag)
  capability : (tag : ℕ) → tag < 256 ^ 4 → Started lent kind.Capability (capability_command tag)
  storage : (tag : ℕ) → tag < 256 ^ 4 → Started lent kind.Storage (storage_command tag)
  reset : (tag : ℕ) (opcode : ResetOpcode) → tag < 256 ^ 4 → Started lent kind.Nothing (reset_command tag opcode)
  switch : (tag : ℕ) (index : StorageIndex) → tag < 256 ^ 4 → Started lent kind.Nothing (switch_command tag index)
  erase_lba_lem : (tag first count : ℕ) → tag < 256 ^ 4 → first < 256 ^ 4 → count < 256 ^ 2 → Started lent kind.Nothing (erase_lba_command tag first count)
  erase_force_lem : (tag first count : ℕ) → tag < 256 ^ 4 → first < 256 ^ 4 → count < 256 ^ 2 → Started lent kind.Nothing (erase_force_command tag first count)
  read : (tag first count : ℕ) → tag < 256 ^ 4 → first < 256 ^ 4 → count < 256 ^ 2 → count * sector_size ≤ lent → Started lent kind.Read (read_lba_command tag first count)
  write : (tag first count : ℕ) → tag < 256 ^ 4 → first < 256 ^ 4 → count < 256 ^ 2 → count * sector_size ≤ lent → Started lent kind.Write (write_lba_command tag first count)

-- what a finish tells by the status that is pending: 15 where that is FAILED
unfoldable pub by_status : status.Status → Told Reply → Told Reply
by_status SUCCESS reply = reply
by_status FAILED reply = refused 15 []

-- a reply, 53 and 57 of both varieties; 54 of the first alone, 15 and 63 of NOR alone
pub data OperationTold : Variety → Told Reply → Type 0 where
  replies : (v : Variety) (reply : Reply) → OperationTold v (given reply)
  unknown : (v : Variety) (values : List ℕ) → OperationTold v (refused 53 values)
  out_of_range : (v : Variety) → OperationTold v (refused 57 [])
  unexpected : OperationTold First (refused 54 [])
  failed : OperationTold Nor (refused 15 [])
  splits_blocks : OperationTold Nor (refused 63 [])

-- what an upload may be told
pub data UploadTold : Told Unit → Type 0 where
  accepted : UploadTold (given tt)
  no_slot : UploadTold (refused 58 [])
  slot_full : UploadTold (refused 59 [])
