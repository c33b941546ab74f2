-- The fields of a deck's block, its check, and what its rules test.
use Rattle.std.specs.Prelude.{ℕ, Bool, true, false, List, [], ◌∷◌, ◌++◌, length, get_or, take, eqb, ltb, leb}
use Rattle.promise.specs.Rules.{pick}
use Rattle.promise.specs.Bytes.{field, high_first, from_high}
use Rattle.promise.specs.Over.{over}
use Rattle.crc.specs.Check.{check}
use Rattle.deck_block.specs.declared.Fields.{Fields}

-- "512-byte blocks"
abbrev pub block_length : ℕ
block_length = 512

-- "Byte 0 kind"; "1-4 address or image length, 5-6 count or area (big-endian); 7 opcode, index or the fill byte"; "bytes 510-511 .., high byte first"
unfoldable pub fields_of : List ℕ → Fields
fields_of block =
    record {
      kind = get_or block 0 0;
      word = from_high (field 1 4 block);
      half = from_high (field 5 2 block);
      byte = get_or block 7 0;
      check = from_high (field 510 2 block);
    }

-- a block's bytes before its check: "bytes 0-509"
abbrev pub checked_length : ℕ
checked_length = 510

-- the check of the block that has this tag: "the check starts with the block's tag, four bytes big-endian, and then the 510 bytes"
unfoldable pub block_check : ℕ → List ℕ → ℕ
block_check tag block = check (high_first 4 tag ++ take checked_length block)

-- the first check, of decks made before: "the CRC-16/IBM-3740 of bytes 0-509"
abbrev pub first_check : List ℕ → ℕ
first_check block = check (take checked_length block)

-- a block's bytes with the check of this tag behind them
abbrev pub with_check : ℕ → List ℕ → List ℕ
with_check tag block = take checked_length block ++ high_first 2 (block_check tag block)

-- a block with this check where it has its own, "bytes 510-511 .., high byte first"; one that is short has no place for it
abbrev pub put_check : ℕ → List ℕ → List ℕ
put_check check block = pick (ltb (length block) block_length) block (over checked_length (high_first 2 check) block)

unfoldable pub all_zero : List ℕ → Bool
all_zero [] = true
all_zero (b ∷ bs) = pick (eqb b 0) (all_zero bs) false

-- the kinds
abbrev pub chip_info_kind : ℕ
chip_info_kind = 1

abbrev pub flash_id_kind : ℕ
flash_id_kind = 2

abbrev pub flash_info_kind : ℕ
flash_info_kind = 3

abbrev pub capability_kind : ℕ
capability_kind = 4

abbrev pub erase_lba_kind : ℕ
erase_lba_kind = 5

abbrev pub erase_force_kind : ℕ
erase_force_kind = 6

abbrev pub read_kind : ℕ
read_kind = 7

abbrev pub write_kind : ℕ
write_kind = 8

abbrev pub reset_kind : ℕ
reset_kind = 9

abbrev pub storage_kind : ℕ
storage_kind = 10

abbrev pub switch_kind : ℕ
switch_kind = 11

abbrev pub upload_kind : ℕ
upload_kind = 12

unfoldable pub is_kind : ℕ → Bool
is_kind k = pick (ltb k chip_info_kind) false (leb k upload_kind)

-- the kind that is withdrawn: upload without check
abbrev pub unchecked_kind : ℕ
unchecked_kind = 13

-- "read or write above 16 sectors or image above 8,192"
abbrev pub most_deck_sectors : ℕ
most_deck_sectors = 16

abbrev pub longest_image : ℕ
longest_image = 8192

unfoldable pub too_large : Fields → Bool
too_large f =
    pick (eqb f.kind read_kind) (ltb most_deck_sectors f.half)
    (pick (eqb f.kind write_kind) (ltb most_deck_sectors f.half)
    (pick (eqb f.kind upload_kind) (ltb longest_image f.word) false))
