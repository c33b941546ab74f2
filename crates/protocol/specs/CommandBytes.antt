-- The command block as bytes, and bytes as a command block.
use Rattle.std.specs.Prelude.{ℕ, ◌<◌, ◌≤◌, ◌^◌, ◌≡◌, not, List, [], ◌∷◌, ◌++◌, ltb, length, get_or, take}
use Rattle.promise.specs.Told.{Told, given, and_then}
use Rattle.promise.specs.Rules.{rule, unless}
use Rattle.promise.specs.Bytes.{low_first, high_first, from_low, from_high, field}
use Rattle.protocol_codes.specs.Numbers.{code_number, direction_number}
use Rattle.protocol_codes.specs.Reading.{code_of, direction_of}
use Rattle.protocol_codes.specs.declared.Direction.{Direction}
use Rattle.protocol_codes.specs.declared.CommandCode.{CommandCode}
use Rattle.protocol.specs.declared.CommandBlock.{CommandBlock}
use Rattle.protocol_bytes.specs.Signature.{usbc, same}
use Rattle.protocol_bytes.specs.Writing.{Writing, writing}

-- Command, 31 bytes
abbrev pub command_length : ℕ
command_length = 31

-- 0-3 `USBC`; 4-7 tag, big-endian; 8-11 transfer length, little-endian; 12 direction; 13 lun; 14 CDB length; 15 code; 16 opcode;
-- 17-20 address, big-endian; 21 zero; 22-23 count, big-endian; 24-30 not written
unfoldable pub command_bytes : CommandBlock → List ℕ
command_bytes b =
    usbc ++ (high_first 4 b.tag ++ (low_first 4 b.transfer_length
    ++ (direction_number b.flags ∷ b.lun ∷ b.cdb_length ∷ code_number b.cd_code ∷ b.cd_opcode
    ∷ (high_first 4 b.cd_address ++ (0 ∷ high_first 2 b.cd_length)))))

-- numbers that the fields of several bytes can hold
pub record BlockFits (b : CommandBlock) : Type 0 where
  pub tag : b.tag < 256 ^ 4
  pub transfer : b.transfer_length < 256 ^ 4
  pub address : b.cd_address < 256 ^ 4
  pub count : b.cd_length < 256 ^ 2

-- fills 24 bytes, returns 31
unfoldable pub write_command : CommandBlock → ℕ → Writing
write_command b room = writing command_length (command_bytes b) room

-- the fields where they stand, the direction and the code being known
unfoldable pub block_of : List ℕ → Direction → CommandCode → CommandBlock
block_of bytes direction code =
    record {
      tag = from_high (field 4 4 bytes);
      transfer_length = from_low (field 8 4 bytes);
      flags = direction;
      lun = get_or bytes 13 0;
      cdb_length = get_or bytes 14 0;
      cd_code = code;
      cd_opcode = get_or bytes 16 0;
      cd_address = from_high (field 17 4 bytes);
      cd_length = from_high (field 22 2 bytes);
    }

-- 1 to 4 in this order: command length (n), signature (4 bytes), flags (byte), code (byte)
unfoldable pub read_command : List ℕ → Told CommandBlock
read_command bytes =
    unless (rule (ltb (length bytes) command_length) 1 (length bytes ∷ []) ∷ rule (not (same (take 4 bytes) usbc)) 2 (take 4 bytes) ∷ [])
    (and_then (direction_of (get_or bytes 12 0)) (λ direction.
    and_then (code_of (get_or bytes 15 0)) (λ code. given (block_of bytes direction code))))

-- two inputs, of any lengths, that have the same byte at each place that is read: 0 to 20, 22 and 23
pub record Alike (bytes others : List ℕ) : Type 0 where
  pub front : (i : ℕ) → i < 21 → get_or bytes i 0 ≡ get_or others i 0
  pub count : (i : ℕ) → 22 ≤ i → i < 24 → get_or bytes i 0 ≡ get_or others i 0
