-- What an effect of the transaction table does to lent bytes.
use Rattle.std.specs.Prelude.{ℕ, ◌*◌, ◌/◌, List, [], ◌∷◌, length, drop, replicate}
use Rattle.std.specs.Int.Bits.{bit_and}
use Rattle.promise.specs.Rules.{pick}
use Rattle.promise.specs.Bytes.{field, front}
use Rattle.protocol_codes.specs.declared.Status as told
use Rattle.protocol_codes.specs.declared.Status.TheVariants.{SUCCESS, FAILED}
use Rattle.protocol_bytes.specs.Signature.{same}
use Rattle.protocol_bytes.specs.Sector.{sector_size}
use Rattle.protocol_status.specs.StatusBytes.{status_bytes}
use Rattle.promise.specs.Over.{over}
use Rattle.mock_table.specs.declared.outcome.Effect.{Effect}
use Rattle.mock_table.specs.declared.outcome.Effect.TheVariants.{Nothing, Fill, Store, Program, Supply, Reply}
use Rattle.mock_table.specs.declared.outcome.ReplyKind.{ReplyKind}
use Rattle.mock_table.specs.declared.outcome.ReplyKind.TheVariants.{FlashId, FlashInfo, ChipInfo, Capability, Storage, Status}
use Rattle.mock_base.specs.Config.{flash_info}
use Rattle.mock_base.specs.declared.config.MockDeviceConfig.{MockDeviceConfig}

-- erases fill with 0xFF
abbrev pub erased : ℕ
erased = 0xFF

-- NOR cells: "A write leaves each byte as old AND new". Past the old bytes, where no write that fits comes, each is the one asked
unfoldable pub programmed : List ℕ → List ℕ → List ℕ
programmed [] old = []
programmed (asked ∷ bytes) [] = asked ∷ programmed bytes []
programmed (asked ∷ bytes) (before ∷ old) = bit_and before asked ∷ programmed bytes old

-- "if any byte isn't the one asked, the status is FAILED"
unfoldable pub cells_told : List ℕ → List ℕ → told.Status
cells_told bytes old = pick (same (programmed bytes old) bytes) SUCCESS FAILED

-- the flash after a write's effect: `bytes` are the call's data
unfoldable pub flash_after : Effect → List ℕ → List ℕ → List ℕ
flash_after Nothing bytes flash = flash
flash_after (Fill range) bytes flash = over (range.first * sector_size) (replicate (range.count * sector_size) erased) flash
flash_after (Store range) bytes flash = over (range.first * sector_size) bytes flash
flash_after (Program range) bytes flash =
    over (range.first * sector_size) (programmed bytes (drop (range.first * sector_size) flash)) flash
flash_after (Supply range) bytes flash = flash
flash_after (Reply kind) bytes flash = flash

-- the status that applying the effect answers: FAILED where the cells did not take what was asked
unfoldable pub pending_after : Effect → List ℕ → List ℕ → told.Status
pending_after Nothing bytes flash = SUCCESS
pending_after (Fill range) bytes flash = SUCCESS
pending_after (Store range) bytes flash = SUCCESS
pending_after (Program range) bytes flash = cells_told bytes (drop (range.first * sector_size) flash)
pending_after (Supply range) bytes flash = SUCCESS
pending_after (Reply kind) bytes flash = SUCCESS

-- NOR's storage reply: bit 4 set, little-endian
abbrev pub storage_bytes : List ℕ
storage_bytes = 0x10 ∷ 0 ∷ 0 ∷ 0 ∷ []

-- a status has the command's tag, residue 0 and what was pending
unfoldable pub reply_bytes : MockDeviceConfig → ℕ → ReplyKind → List ℕ
reply_bytes config sectors FlashId = config.flash_id
reply_bytes config sectors FlashInfo = flash_info config sectors
reply_bytes config sectors ChipInfo = config.chip_info
reply_bytes config sectors Capability = config.capability
reply_bytes config sectors Storage = storage_bytes
reply_bytes config sectors (Status tag status) = status_bytes (record { tag = tag; residue = 0; status = status })

-- a read's buffer after its effect
unfoldable pub buffer_after : MockDeviceConfig → Effect → List ℕ → List ℕ → List ℕ
buffer_after config Nothing flash buffer = buffer
buffer_after config (Fill range) flash buffer = buffer
buffer_after config (Store range) flash buffer = buffer
buffer_after config (Program range) flash buffer = buffer
buffer_after config (Supply range) flash buffer = front (field (range.first * sector_size) (range.count * sector_size) flash) buffer
buffer_after config (Reply kind) flash buffer = front (reply_bytes config (length flash / sector_size) kind) buffer
