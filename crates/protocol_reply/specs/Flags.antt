-- The flag places of `Capability`: a byte of the reply and the bit in it. A mask of that one bit asks that it is set (`Masks` in the proofs).
use Rattle.std.specs.Prelude.{ℕ, Bool, List, eqb, get_or}
use Rattle.std.specs.Int.Bits.{bit_and}

pub record Flag : Type 0 where
  pub byte : ℕ
  pub bit : ℕ

abbrev pub flag_at : ℕ → ℕ → Flag
flag_at byte bit = record { byte = byte; bit = bit }

-- the flag's bit is set
abbrev pub has_flag : Flag → List ℕ → Bool
has_flag flag reply = eqb (bit_and (get_or reply flag.byte 0) flag.bit) flag.bit

abbrev pub direct_lba : Flag
direct_lba = flag_at 0 0x01

abbrev pub vendor_storage : Flag
vendor_storage = flag_at 0 0x02

abbrev pub first4m_access : Flag
first4m_access = flag_at 0 0x04

abbrev pub read_lba : Flag
read_lba = flag_at 0 0x08

abbrev pub read_com_log : Flag
read_com_log = flag_at 0 0x20

abbrev pub read_idb_config : Flag
read_idb_config = flag_at 0 0x40

abbrev pub read_secure_mode : Flag
read_secure_mode = flag_at 0 0x80

abbrev pub new_idb : Flag
new_idb = flag_at 1 0x01

abbrev pub switch_storage : Flag
switch_storage = flag_at 1 0x02
