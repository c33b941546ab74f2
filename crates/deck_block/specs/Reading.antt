-- What a block asks for, and its refusals in their order.
use Rattle.std.specs.Prelude.{ℕ, ◌≤◌, ◌^◌, ◌<◌, not, true, false, List, [], ◌∷◌, length, eqb, ltb, ◌≡◌}
use Rattle.promise.specs.Told.{Told, given, refused}
use Rattle.promise.specs.Rules.{pick, rule, unless}
use Rattle.promise.specs.Bytes.{field}
use Rattle.protocol_codes.specs.declared.ResetOpcode.{ResetOpcode}
use Rattle.protocol_codes.specs.Reading.{reset_of, storage_of}
use Rattle.deck_block.specs.declared.Fields.{Fields}
use Rattle.deck_block.specs.declared.Request.{Request}
use Rattle.deck_block.specs.declared.Request.TheVariants as request
use Rattle.deck_block.specs.Block.{block_length, fields_of, block_check, first_check, all_zero, is_kind, unchecked_kind, too_large, chip_info_kind, flash_id_kind, flash_info_kind, capability_kind, erase_lba_kind, erase_force_kind, read_kind, write_kind, reset_kind, storage_kind, switch_kind, most_deck_sectors, longest_image}
use Rattle.std.specs.Prelude.{Result}
use Rattle.deck_block.specs.declared.CardError.{CardError}
use Rattle.std.specs.declared.result.Result.TheVariants.{Ok, Err}
use Rattle.deck_block.specs.declared.CardError.TheVariants as card_error

-- 45: "reset above 4"
abbrev pub unknown_reset : ℕ
unknown_reset = 45

unfoldable pub asks_reset : Told ResetOpcode → Told Request
asks_reset (given opcode) = given (request.ResetDevice opcode)
asks_reset (refused n values) = refused unknown_reset []

unfoldable pub reset_request : ℕ → Told Request
reset_request byte = asks_reset (reset_of byte)

abbrev pub switch_request : ℕ → Request
switch_request byte = request.SwitchStorage (storage_of byte)

-- "1 chip info, 2 flash id, 3 flash info, 4 capability, 5 `erase_lba`, 6 `erase_force`, 7 read, 8 write, 9 reset, 10 storage, 11 switch, 12 upload";
-- a kind that is none of the first eleven is 12 here, since `read_by` has refused any other
unfoldable pub request_of : Fields → Told Request
request_of f =
    pick (eqb f.kind chip_info_kind) (given request.ChipInfo)
    (pick (eqb f.kind flash_id_kind) (given request.FlashId)
    (pick (eqb f.kind flash_info_kind) (given request.FlashInfo)
    (pick (eqb f.kind capability_kind) (given request.Capability)
    (pick (eqb f.kind erase_lba_kind) (given (request.EraseLba f.word f.half))
    (pick (eqb f.kind erase_force_kind) (given (request.EraseForce f.word f.half))
    (pick (eqb f.kind read_kind) (given (request.ReadLba f.word f.half))
    (pick (eqb f.kind write_kind) (given (request.WriteLba f.word f.half f.byte))
    (pick (eqb f.kind reset_kind) (reset_request f.byte)
    (pick (eqb f.kind storage_kind) (given request.Storage)
    (pick (eqb f.kind switch_kind) (given (switch_request f.byte))
    (given (request.WriteArea f.half f.word f.byte))))))))))))

-- a block that must have this check: "Refused in order: 44 short last block .., 40 check, 41 kind, 42 bytes 8-509, 43 .., 45 reset above 4"; "46 for kind
-- 13, at the place of 41"
unfoldable pub read_by : ℕ → List ℕ → Told Request
read_by check block =
    unless
    (rule (ltb (length block) block_length) 44 []
    ∷ rule (not (eqb (fields_of block).check check)) 40 []
    ∷ rule (eqb (fields_of block).kind unchecked_kind) 46 []
    ∷ rule (not (is_kind (fields_of block).kind)) 41 []
    ∷ rule (not (all_zero (field 8 502 block))) 42 []
    ∷ rule (too_large (fields_of block)) 43 []
    ∷ [])
    (request_of (fields_of block))

-- the block that has this tag
abbrev pub read_card : ℕ → List ℕ → Told Request
read_card tag block = read_by (block_check tag block) block

-- a block of a deck made before, by its first check
abbrev pub read_before : List ℕ → Told Request
read_before block = read_by (first_check block) block

abbrev pub card_error_number : CardError → ℕ
card_error_number card_error.Short = 44
card_error_number card_error.BadCheck = 40
card_error_number card_error.WithdrawnKind = 46
card_error_number card_error.UnknownKind = 41
card_error_number card_error.NotZero = 42
card_error_number card_error.TooLarge = 43
card_error_number card_error.UnknownReset = unknown_reset

unfoldable pub card_told : Result Request CardError → Told Request
card_told (Ok r) = given r
card_told (Err card_error.Short) = refused 44 []
card_told (Err card_error.BadCheck) = refused 40 []
card_told (Err card_error.WithdrawnKind) = refused 46 []
card_told (Err card_error.UnknownKind) = refused 41 []
card_told (Err card_error.NotZero) = refused 42 []
card_told (Err card_error.TooLarge) = refused 43 []
card_told (Err card_error.UnknownReset) = refused unknown_reset []

-- a request within the bounds of 43
unfoldable pub Fits : Request → Type 0
Fits request.ChipInfo = Unit
Fits request.FlashId = Unit
Fits request.FlashInfo = Unit
Fits request.Capability = Unit
Fits (request.EraseLba first count) = Unit
Fits (request.EraseForce first count) = Unit
Fits (request.ReadLba first count) = count ≤ most_deck_sectors
Fits (request.WriteLba first count fill) = count ≤ most_deck_sectors
Fits (request.ResetDevice opcode) = Unit
Fits request.Storage = Unit
Fits (request.SwitchStorage index) = Unit
Fits (request.WriteArea area n fill) = n ≤ longest_image

-- the first sector and the count of an operation are what a command can name
abbrev pub Named : Request → Type 0
Named request.ChipInfo = Unit
Named request.FlashId = Unit
Named request.FlashInfo = Unit
Named request.Capability = Unit
Named (request.EraseLba first count) = (first < 256 ^ 4) × (count < 256 ^ 2)
Named (request.EraseForce first count) = (first < 256 ^ 4) × (count < 256 ^ 2)
Named (request.ReadLba first count) = (first < 256 ^ 4) × (count < 256 ^ 2)
Named (request.WriteLba first count fill) = (first < 256 ^ 4) × (count < 256 ^ 2)
Named (request.ResetDevice opcode) = Unit
Named request.Storage = Unit
Named (request.SwitchStorage index) = Unit
Named (request.WriteArea area n fill) = Unit

-- the rules that were met on the way
pub record Passed (block : List ℕ) (r : Request) : Type 0 where
  pub long : block_length ≤ length block
  pub kind : is_kind (fields_of block).kind ≡ true
  pub small : too_large (fields_of block) ≡ false
  pub asks : request_of (fields_of block) ≡ given r
