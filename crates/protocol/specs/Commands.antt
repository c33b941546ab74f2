-- What each of our operations asks of the device, with the tag passed in.
use Rattle.std.specs.Prelude.{ℕ, ◌*◌}
use Rattle.protocol_bytes.specs.Sector.{sector_size}
use Rattle.protocol_codes.specs.Numbers.{reset_number, storage_number}
use Rattle.protocol_codes.specs.declared.Direction.{Direction}
use Rattle.protocol_codes.specs.declared.Direction.TheVariants.{In, Out}
use Rattle.protocol_codes.specs.declared.CommandCode.{CommandCode}
use Rattle.protocol_codes.specs.declared.CommandCode.TheVariants.{ReadFlashId, ReadFlashInfo, ReadCapability, ReadChipInfo, GetStorageMedia, EraseLBA, EraseForce, ReadLBA, WriteLBA, DeviceReset, SwitchStorage}
use Rattle.protocol_codes.specs.declared.ResetOpcode.{ResetOpcode}
use Rattle.protocol_codes.specs.declared.StorageIndex.{StorageIndex}
use Rattle.protocol.specs.declared.CommandBlock.{CommandBlock}

-- a CDB of 6 bytes with an opcode alone, or of 10 over sectors
abbrev pub short_cdb : ℕ
short_cdb = 6

abbrev pub long_cdb : ℕ
long_cdb = 10

-- a request for a reply of `length` bytes
abbrev pub reply_command : ℕ → ℕ → CommandCode → CommandBlock
reply_command tag length code =
    record { tag = tag; transfer_length = length; flags = In; lun = 0; cdb_length = short_cdb; cd_code = code; cd_opcode = 0; cd_address = 0; cd_length = 0 }

-- an opcode and no data
abbrev pub opcode_command : ℕ → CommandCode → ℕ → CommandBlock
opcode_command tag code opcode =
    record { tag = tag; transfer_length = 0; flags = Out; lun = 0; cdb_length = short_cdb; cd_code = code; cd_opcode = opcode; cd_address = 0; cd_length = 0 }

-- `count` sectors from sector `first`, with `length` bytes of data
abbrev pub sector_command : ℕ → ℕ → Direction → CommandCode → ℕ → ℕ → CommandBlock
sector_command tag length flags code first count =
    record { tag = tag; transfer_length = length; flags = flags; lun = 0; cdb_length = long_cdb; cd_code = code; cd_opcode = 0; cd_address = first; cd_length = count }

-- chip info 16 bytes, flash id 5, flash info 11, capability 8, storage 4
abbrev pub chip_info_command : ℕ → CommandBlock
chip_info_command tag = reply_command tag 16 ReadChipInfo

abbrev pub flash_id_command : ℕ → CommandBlock
flash_id_command tag = reply_command tag 5 ReadFlashId

abbrev pub flash_info_command : ℕ → CommandBlock
flash_info_command tag = reply_command tag 11 ReadFlashInfo

abbrev pub capability_command : ℕ → CommandBlock
capability_command tag = reply_command tag 8 ReadCapability

abbrev pub storage_command : ℕ → CommandBlock
storage_command tag = reply_command tag 4 GetStorageMedia

-- erases move no data
abbrev pub erase_lba_command : ℕ → ℕ → ℕ → CommandBlock
erase_lba_command tag first count = sector_command tag 0 Out EraseLBA first count

abbrev pub erase_force_command : ℕ → ℕ → ℕ → CommandBlock
erase_force_command tag first count = sector_command tag 0 Out EraseForce first count

abbrev pub read_lba_command : ℕ → ℕ → ℕ → CommandBlock
read_lba_command tag first count = sector_command tag (count * sector_size) In ReadLBA first count

abbrev pub write_lba_command : ℕ → ℕ → ℕ → CommandBlock
write_lba_command tag first count = sector_command tag (count * sector_size) Out WriteLBA first count

abbrev pub reset_command : ℕ → ResetOpcode → CommandBlock
reset_command tag opcode = opcode_command tag DeviceReset (reset_number opcode)

abbrev pub switch_command : ℕ → StorageIndex → CommandBlock
switch_command tag index = opcode_command tag SwitchStorage (storage_number index)
