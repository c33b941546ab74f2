-- What the private functions of the code promise.
use Rattle.std.specs.Prelude.{ℕ}
use Rattle.protocol.specs.Commands.{chip_info_command, flash_id_command, flash_info_command, capability_command, storage_command, erase_lba_command, erase_force_command, reset_command, switch_command}
use Rattle.operation_finish.specs.declared.Kind.TheVariants as kind
use Rattle.operation.specs.declared.steps.UsbOperation.{UsbOperation}
use Rattle.operation.specs.Record.{fresh}
use Rattle.deck_block.specs.declared.Request.{Request}
use Rattle.deck_block.specs.declared.Request.TheVariants as request

-- what the bench has room for: 16 sectors, or an image of 8,192 bytes
abbrev pub room : ℕ
room = 8192

-- the operation of a request that brings no data of its own
unfoldable pub plain_start : ℕ → Request → UsbOperation
plain_start tag request.ChipInfo = fresh kind.ChipInfo (chip_info_command tag)
plain_start tag request.FlashId = fresh kind.FlashId (flash_id_command tag)
plain_start tag request.FlashInfo = fresh kind.FlashInfo (flash_info_command tag)
plain_start tag request.Capability = fresh kind.Capability (capability_command tag)
plain_start tag (request.EraseLba first count) = fresh kind.Nothing (erase_lba_command tag first count)
plain_start tag (request.EraseForce first count) = fresh kind.Nothing (erase_force_command tag first count)
plain_start tag (request.ResetDevice opcode) = fresh kind.Nothing (reset_command tag opcode)
plain_start tag request.Storage = fresh kind.Storage (storage_command tag)
plain_start tag (request.SwitchStorage index) = fresh kind.Nothing (switch_command tag index)
-- those with sector data or an image are carried out otherwise
plain_start tag (request.ReadLba first count) = fresh kind.Storage (storage_command tag)
plain_start tag (request.WriteLba first count fill) = fresh kind.Storage (storage_command tag)
plain_start tag (request.WriteArea area n fill) = fresh kind.Storage (storage_command tag)
