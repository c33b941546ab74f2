-- What a block does to the head: each request by one whole run.
use Rattle.std.specs.Prelude.{ℕ, ◌*◌, List, [], length, replicate}
use Rattle.promise.specs.Told.{Told, given, refused}
use Rattle.protocol_bytes.specs.Sector.{sector_size}
use Rattle.protocol.specs.Commands.{chip_info_command, flash_id_command, flash_info_command, capability_command, storage_command, erase_lba_command, erase_force_command, reset_command, switch_command, read_lba_command, write_lba_command}
use Rattle.operation_finish.specs.declared.Kind.TheVariants as kind
use Rattle.operation.specs.declared.steps.UsbOperation.{UsbOperation}
use Rattle.operation.specs.Record.{fresh}
use Rattle.maskrom.specs.declared.WholeUpload.{WholeUpload}
use Rattle.maskrom.specs.Whole.{fresh_whole}
use Rattle.run_turn.specs.Turn.{usb_state}
use Rattle.run_operation.specs.Run as run
use Rattle.run_upload.specs.Load as loading
use Rattle.deck_block.specs.declared.Request.{Request}
use Rattle.deck_block.specs.declared.Request.TheVariants as request
use Rattle.deck_block.specs.Reading.{read_card}
use Rattle.deck.specs.Deal.{Head, Deal, operated_by, loaded_by, away}

-- one whole operation, lent this sector data
unfoldable pub operate : UsbOperation → List ℕ → Head → Deal
operate op bytes h =
    operated_by (run.usb_run (usb_state op h.device h.flash bytes) (length h.store) run.whole_budget) h.store

-- one whole upload, from wherever it stands
unfoldable pub load_of : WholeUpload → List ℕ → Head → Deal
load_of upload image h =
    loaded_by
    (loading.load_run image (length h.flash) (loading.upload_budget upload.length) (loading.load_state upload h.device h.store))
    h.flash

abbrev pub load : ℕ → List ℕ → Head → Deal
load area image h = load_of (fresh_whole area (length image)) image h

-- "1 chip info, .. 12 upload"; "the fill byte of written data and images"; sectors are read into zeros
unfoldable pub carry_out : ℕ → Request → Head → Deal
carry_out tag request.ChipInfo h = operate (fresh kind.ChipInfo (chip_info_command tag)) [] h
carry_out tag request.FlashId h = operate (fresh kind.FlashId (flash_id_command tag)) [] h
carry_out tag request.FlashInfo h = operate (fresh kind.FlashInfo (flash_info_command tag)) [] h
carry_out tag request.Capability h = operate (fresh kind.Capability (capability_command tag)) [] h
carry_out tag (request.EraseLba first count) h = operate (fresh kind.Nothing (erase_lba_command tag first count)) [] h
carry_out tag (request.EraseForce first count) h = operate (fresh kind.Nothing (erase_force_command tag first count)) [] h
carry_out tag (request.ReadLba first count) h =
    operate (fresh kind.Read (read_lba_command tag first count)) (replicate (count * sector_size) 0) h
carry_out tag (request.WriteLba first count fill) h =
    operate (fresh kind.Write (write_lba_command tag first count)) (replicate (count * sector_size) fill) h
carry_out tag (request.ResetDevice opcode) h = operate (fresh kind.Nothing (reset_command tag opcode)) [] h
carry_out tag request.Storage h = operate (fresh kind.Storage (storage_command tag)) [] h
carry_out tag (request.SwitchStorage index) h = operate (fresh kind.Nothing (switch_command tag index)) [] h
carry_out tag (request.WriteArea area n fill) h = load area (replicate n fill) h

unfoldable pub deal_asked : ℕ → Told Request → Head → Deal
deal_asked tag (given request) h = carry_out tag request h
deal_asked tag (refused number values) h = away number h

-- the block that has this tag
unfoldable pub deal_block : ℕ → List ℕ → Head → Deal
deal_block tag block h = deal_asked tag (read_card tag block) h
