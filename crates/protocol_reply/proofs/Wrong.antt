-- Programs that the contracts rule out: no proof at all can exist for them. A conjunct for each function that could be wrong that way.
use Prim.Native.Nat.{ℕ, ◌*◌}
use mathlib.Core.Path.{◌≡◌, ap, sym, ◌∙◌}
use mathlib.Core.Bool.{Bool, true, false}
use mathlib.Core.List.{List, [], ◌∷◌, reverse}
use native.Mathlib.Omega.{arith}
use lib.ListN.{get_or, replicate, set}
use Rattle.promise.specs.Told.{given, number}
use Rattle.promise.specs.Rules.{or_refuse}
use Rattle.promise.specs.Bytes.{from_low, from_high, field}
use Rattle.protocol_codes.specs.Reading.{by_number, storage_of}
use Rattle.protocol_codes.specs.declared.StorageIndex.{StorageIndex}
use Rattle.protocol_reply.specs.declared.info.ChipInfo.{ChipInfo}
use Rattle.protocol_reply.specs.declared.info.FlashId.{FlashId}
use Rattle.protocol_reply.specs.declared.info.FlashInfo.{FlashInfo}
use Rattle.protocol_reply.specs.declared.flags.Capability.{Capability}
use Rattle.protocol_reply.specs.declared.size.SectorCount.{SectorCount}
use Rattle.protocol_reply.specs.Info.{info_sectors, flash_size, block_size_sectors}
use Rattle.protocol_reply.specs.Flags.{Flag, has_flag, direct_lba, vendor_storage, first4m_access, read_lba, read_com_log, read_idb_config, read_secure_mode, new_idb, switch_storage}
use Rattle.protocol_reply.specs.Media.{places_set, only_place, read_storage, storage_told}
use Rattle.protocol_reply.specs.Sectors.{sectors_in, sector_told}
use Rattle.protocol_reply.proofs.Examples.{p11}
use Rattle.std.specs.Prelude.{Result}
use Rattle.protocol_reply.specs.declared.media.NotOneBit.{NotOneBit}
use Rattle.std.specs.declared.result.Result.TheVariants.{Ok, Err}
use Rattle.protocol_reply.specs.declared.size.SectorError.{SectorError}
use Rattle.protocol_reply.specs.declared.size.SectorError.TheVariants as sector_error

-- two lists that differ in their first byte
first_apart : (r a b : List ℕ) → (get_or a 0 0 ≡ get_or b 0 0 → ⊥) → r ≡ a → r ≡ b → ⊥
first_apart r a b apart e f = apart (ap (λ (l : List ℕ). get_or l 0 0) (sym e ∙ f))

-- as many zeros, or ones
abbrev zeros : ℕ → List ℕ
zeros n = replicate n 0

abbrev ones : ℕ → List ℕ
ones n = replicate n 1

-- `from_bytes` with one wrapper for all bytes, for each kind of reply
pub fixed_wrapper : (chip : ChipInfo) (id : FlashId) (info : FlashInfo) (can : Capability)
    → (chip.0 ≡ zeros 16 → chip.0 ≡ ones 16 → ⊥) × (id.0 ≡ zeros 5 → id.0 ≡ ones 5 → ⊥) × (info.0 ≡ zeros 11 → info.0 ≡ ones 11 → ⊥)
    × (can.0 ≡ zeros 8 → can.0 ≡ ones 8 → ⊥)
fixed_wrapper chip id info can = (
  first_apart chip.0 (zeros 16) (ones 16) (λ e. omega arith),
  first_apart id.0 (zeros 5) (ones 5) (λ e. omega arith),
  first_apart info.0 (zeros 11) (ones 11) (λ e. omega arith),
  first_apart can.0 (zeros 8) (ones 8) (λ e. omega arith),
)

-- bytes that are no palindrome
abbrev one_then_zeros : ℕ → List ℕ
one_then_zeros n = 1 ∷ zeros n

-- `from_bytes` that turns the bytes round, for each kind of reply
pub wrapped_backwards : (chip : ChipInfo) (id : FlashId) (info : FlashInfo) (can : Capability)
    → (chip.0 ≡ reverse (one_then_zeros 15) → chip.0 ≡ one_then_zeros 15 → ⊥) × (id.0 ≡ reverse (one_then_zeros 4) → id.0 ≡ one_then_zeros 4 → ⊥)
    × (info.0 ≡ reverse (one_then_zeros 10) → info.0 ≡ one_then_zeros 10 → ⊥) × (can.0 ≡ reverse (one_then_zeros 7) → can.0 ≡ one_then_zeros 7 → ⊥)
wrapped_backwards chip id info can = (
  first_apart chip.0 (reverse (one_then_zeros 15)) (one_then_zeros 15) (λ e. omega arith),
  first_apart id.0 (reverse (one_then_zeros 4)) (one_then_zeros 4) (λ e. omega arith),
  first_apart info.0 (reverse (one_then_zeros 10)) (one_then_zeros 10) (λ e. omega arith),
  first_apart can.0 (reverse (one_then_zeros 7)) (one_then_zeros 7) (λ e. omega arith),
)

-- the four wrappers of given bytes
abbrev chip_of : List ℕ → ChipInfo
chip_of bytes = record { 0 = bytes }

abbrev id_of : List ℕ → FlashId
id_of bytes = record { 0 = bytes }

abbrev info_of : List ℕ → FlashInfo
info_of bytes = record { 0 = bytes }

abbrev can_of : List ℕ → Capability
can_of bytes = record { 0 = bytes }

-- `inner` with one answer for all replies, for each kind of reply
pub fixed_bytes : (r : List ℕ)
    → (r ≡ (chip_of (zeros 16)).0 → r ≡ (chip_of (ones 16)).0 → ⊥) × (r ≡ (id_of (zeros 5)).0 → r ≡ (id_of (ones 5)).0 → ⊥)
    × (r ≡ (info_of (zeros 11)).0 → r ≡ (info_of (ones 11)).0 → ⊥) × (r ≡ (can_of (zeros 8)).0 → r ≡ (can_of (ones 8)).0 → ⊥)
fixed_bytes r = (
  first_apart r (zeros 16) (ones 16) (λ e. omega arith),
  first_apart r (zeros 5) (ones 5) (λ e. omega arith),
  first_apart r (zeros 11) (ones 11) (λ e. omega arith),
  first_apart r (zeros 8) (ones 8) (λ e. omega arith),
)

-- `inner` that turns the bytes round, for each kind of reply
pub unwrapped_backwards : (r : List ℕ)
    → (r ≡ reverse (one_then_zeros 15) → r ≡ (chip_of (one_then_zeros 15)).0 → ⊥) × (r ≡ reverse (one_then_zeros 4) → r ≡ (id_of (one_then_zeros 4)).0 → ⊥)
    × (r ≡ reverse (one_then_zeros 10) → r ≡ (info_of (one_then_zeros 10)).0 → ⊥) × (r ≡ reverse (one_then_zeros 7) → r ≡ (can_of (one_then_zeros 7)).0 → ⊥)
unwrapped_backwards r = (
  first_apart r (reverse (one_then_zeros 15)) (one_then_zeros 15) (λ e. omega arith),
  first_apart r (reverse (one_then_zeros 4)) (one_then_zeros 4) (λ e. omega arith),
  first_apart r (reverse (one_then_zeros 10)) (one_then_zeros 10) (λ e. omega arith),
  first_apart r (reverse (one_then_zeros 7)) (one_then_zeros 7) (λ e. omega arith),
)

-- a flash info of the bytes 1 to 11
abbrev counted : List ℕ
counted = 1 ∷ 2 ∷ 3 ∷ 4 ∷ 5 ∷ 6 ∷ 7 ∷ 8 ∷ 9 ∷ 10 ∷ 11 ∷ []

-- `sectors` and `block_size_sectors` that read their bytes in the other order
pub info_in_the_other_order : (from_high (field 0 4 counted) ≡ info_sectors counted → ⊥) × (from_high (field 4 2 counted) ≡ block_size_sectors counted → ⊥)
unfolding from_low from_high info_sectors block_size_sectors
info_in_the_other_order = ((λ e. omega arith), (λ e. omega arith))

-- `sectors` and `block_size_sectors` that read a byte late
pub info_a_byte_late : (from_low (field 1 4 counted) ≡ info_sectors counted → ⊥) × (from_low (field 5 2 counted) ≡ block_size_sectors counted → ⊥)
unfolding from_low info_sectors block_size_sectors
info_a_byte_late = ((λ e. omega arith), (λ e. omega arith))

-- `size` that tells the sectors; and `size` that counts 1,024 bytes for a sector
pub size_in_other_units : (info_sectors counted ≡ flash_size counted → ⊥) × (info_sectors counted * 1024 ≡ flash_size counted → ⊥)
unfolding from_low info_sectors flash_size
size_in_other_units = ((λ e. omega arith), (λ e. omega arith))

-- a capability reply with no flag, and one with this flag alone
abbrev none : List ℕ
none = zeros 8

abbrev alone : Flag → List ℕ
alone flag = set none flag.byte flag.bit

-- no answer is right for a flag both where it is not set and where it alone is
abbrev NoFixedAnswer : Bool → Flag → Type 0
NoFixedAnswer answer flag = answer ≡ has_flag flag none → answer ≡ has_flag flag (alone flag) → ⊥

apart : (answer : Bool) → answer ≡ false → answer ≡ true → ⊥
apart answer e f = let z : ◌≡◌ {A = ℕ} 0 1 = cc in omega arith

-- a flag with one answer for all replies, each of the nine by itself
pub flag_fixed : (answer : Bool)
    → NoFixedAnswer answer direct_lba × NoFixedAnswer answer vendor_storage × NoFixedAnswer answer first4m_access × NoFixedAnswer answer read_lba
    × NoFixedAnswer answer read_com_log × NoFixedAnswer answer read_idb_config × NoFixedAnswer answer read_secure_mode × NoFixedAnswer answer new_idb
    × NoFixedAnswer answer switch_storage
flag_fixed answer =
    (apart answer, apart answer, apart answer, apart answer, apart answer, apart answer, apart answer, apart answer, apart answer)

-- a program that asks for the second flag's bit is wrong about the first where that one alone is set
abbrev TellsApart : Flag → Flag → Type 0
TellsApart flag asked = has_flag asked (alone flag) ≡ has_flag flag (alone flag) → ⊥

not_set : false ≡ true → ⊥
not_set e = let z : ◌≡◌ {A = ℕ} 0 1 = cc in omega arith

-- a flag that asks for the next flag's bit, each of the nine by itself
pub flag_moved : TellsApart direct_lba vendor_storage × TellsApart vendor_storage first4m_access × TellsApart first4m_access read_lba × TellsApart read_lba read_com_log
    × TellsApart read_com_log read_idb_config × TellsApart read_idb_config read_secure_mode × TellsApart read_secure_mode new_idb × TellsApart new_idb switch_storage
    × TellsApart switch_storage direct_lba
flag_moved = (not_set, not_set, not_set, not_set, not_set, not_set, not_set, not_set, not_set)

-- a storage reply with two bits taken for one
pub two_bits_taken : (r : Result StorageIndex NotOneBit) (index : StorageIndex) → storage_told r ≡ given index → storage_told r ≡ read_storage (0x03 ∷ 0x00 ∷ 0x00 ∷ 0x00 ∷ []) → ⊥
two_bits_taken r index told meets = let z : ◌≡◌ {A = ℕ} 0 1 = cc (told, meets, p11) in omega arith

-- the place of the bit counted from the top: bit 1 would be index 30
pub bit_counted_from_the_top : storage_told (Ok (storage_of 30)) ≡ read_storage (0x02 ∷ 0x00 ∷ 0x00 ∷ 0x00 ∷ []) → ⊥
unfolding storage_told read_storage only_place places_set from_low storage_of by_number
bit_counted_from_the_top e = let z : ◌≡◌ {A = ℕ} 0 1 = cc in omega arith

-- half a sector taken for one
pub half_a_sector_taken : (r : Result SectorCount SectorError) (count : SectorCount) → sector_told r ≡ given count → sector_told r ≡ sectors_in 256 → ⊥
unfolding sectors_in or_refuse
half_a_sector_taken r count told meets = let z : ◌≡◌ {A = ℕ} 0 1 = cc in omega arith

-- one sector more than a command can name
pub one_sector_too_many : (r : Result SectorCount SectorError) (count : SectorCount) → sector_told r ≡ given count → sector_told r ≡ sectors_in 33554432 → ⊥
unfolding sectors_in or_refuse
one_sector_too_many r count told meets = let z : ◌≡◌ {A = ℕ} 0 1 = cc in omega arith

-- `number` of a sector answer with one number for both refusals
pub one_number_for_lengths : (n : ℕ) → n ≡ number (sector_told (Err sector_error.NotSectors)) → n ≡ number (sector_told (Err sector_error.TooMany)) → ⊥
unfolding number sector_told
one_number_for_lengths n e f = omega arith

-- `number` of a sector answer that tells the count where there is one
pub count_for_number : 8 ≡ number (sector_told (Ok (record { 0 = 8 }))) → ⊥
unfolding number sector_told
count_for_number e = omega arith

-- `number` of a storage answer that tells 0 for a refusal
pub refusal_told_as_0 : 0 ≡ number (storage_told (Err (record {}))) → ⊥
unfolding number storage_told
refusal_told_as_0 e = omega arith

-- `number` of a storage answer that tells 14 where there is an index
pub index_told_as_refusal : (index : StorageIndex) → 14 ≡ number (storage_told (Ok index)) → ⊥
unfolding number storage_told
index_told_as_refusal index e = omega arith
