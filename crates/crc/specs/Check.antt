-- CRC-16/IBM-3740, bit by bit: polynomial 0x1021, start 0xFFFF, nothing reflected, no final change, high bit first.
use Rattle.std.specs.Prelude.{ℕ, zero, suc, ◌*◌, ◌/◌, ◌%◌, ◌^◌, List, [], ◌∷◌}
use Rattle.std.specs.Int.Bits.{bit_xor}

abbrev pub polynomial : ℕ
polynomial = 0x1021

abbrev pub start : ℕ
start = 0xFFFF

-- one bit of the message: the register moves up by one bit, and where its old top bit differs from the message's bit the polynomial is added
unfoldable pub bit_step : ℕ → ℕ → ℕ
bit_step crc bit = bit_xor (crc * 2 % 2 ^ 16) (bit_xor (crc / 2 ^ 15) bit % 2 * polynomial)

-- the k low bits of a number, the highest of them first
unfoldable pub bits_step : ℕ → ℕ → ℕ → ℕ
bits_step crc zero v = crc
bits_step crc (suc k) v = bits_step (bit_step crc (v / 2 ^ k)) k v

-- a byte is its eight bits, the highest first
unfoldable pub byte_step : ℕ → ℕ → ℕ
byte_step crc byte = bits_step crc 8 byte

-- a register taken over a message, byte after byte
unfoldable pub crc_over : ℕ → List ℕ → ℕ
crc_over crc [] = crc
crc_over crc (b ∷ bs) = crc_over (byte_step crc b) bs

-- the check of a message
abbrev pub check : List ℕ → ℕ
check message = crc_over start message
