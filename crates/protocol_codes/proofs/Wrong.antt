-- Programs that the contracts rule out: no proof at all can exist for them. A conjunct for each enum that could be wrong that way.
use Prim.Native.Nat.{ℕ}
use mathlib.Core.Path.{◌≡◌}
use native.Mathlib.Omega.{arith}
use Rattle.promise.specs.Told.{number}
use Rattle.protocol_codes.specs.Numbers.{direction_number, code_number, status_number, reset_number, storage_number}
use Rattle.protocol_codes.specs.Reading.{by_number, known, direction_of, code_of, status_of, reset_of, storage_of, direction_read_told, code_read_told, status_read_told, reset_read_told}
use Rattle.protocol_codes.specs.declared.Direction.TheVariants.{In, Out}
use Rattle.protocol_codes.specs.declared.CommandCode.TheVariants.{ReadLBA, WriteLBA, EraseForce}
use Rattle.protocol_codes.specs.declared.Status.TheVariants.{SUCCESS, FAILED}
use Rattle.protocol_codes.specs.declared.ResetOpcode.TheVariants.{Reset, Maskrom, Disconnect}
use Rattle.protocol_codes.specs.declared.StorageIndex.{StorageIndex}
use Rattle.protocol_codes.specs.declared.StorageIndex.TheVariants.{Nand, Emmc, Pcie, Ufs, Unknown}
use Rattle.std.specs.Prelude.{Result}
use Rattle.protocol_codes.specs.declared.Direction.{Direction}
use Rattle.protocol_codes.specs.declared.UnknownDirection.{UnknownDirection}
use Rattle.std.specs.declared.result.Result.TheVariants.{Ok, Err}
use Rattle.protocol_codes.specs.declared.CommandCode.{CommandCode}
use Rattle.protocol_codes.specs.declared.UnknownCode.{UnknownCode}
use Rattle.protocol_codes.specs.declared.Status.{Status}
use Rattle.protocol_codes.specs.declared.UnknownStatus.{UnknownStatus}
use Rattle.protocol_codes.specs.declared.ResetOpcode.{ResetOpcode}
use Rattle.protocol_codes.specs.declared.UnknownReset.{UnknownReset}

-- `u8::from` of `Direction`, `CommandCode`, `Status`, `ResetOpcode`, `StorageIndex` with one number for all values
pub one_number_for_all : (n : ℕ)
    → (n ≡ direction_number In → n ≡ direction_number Out → ⊥) × (n ≡ code_number ReadLBA → n ≡ code_number WriteLBA → ⊥)
    × (n ≡ status_number SUCCESS → n ≡ status_number FAILED → ⊥) × (n ≡ reset_number Reset → n ≡ reset_number Disconnect → ⊥)
    × (n ≡ storage_number Nand → n ≡ storage_number Emmc → ⊥)
one_number_for_all n = ((λ e f. omega arith), (λ e f. omega arith), (λ e f. omega arith), (λ e f. omega arith), (λ e f. omega arith))

-- `u8::from` with a value's place in its enum, counted from 0 for directions and codes and from 1 for the others, whose numbers are their places from 0
pub place_for_number : (0 ≡ direction_number In → ⊥) × (6 ≡ code_number EraseForce → ⊥) × (1 ≡ status_number SUCCESS → ⊥) × (5 ≡ reset_number Disconnect → ⊥)
    × (13 ≡ storage_number Ufs → ⊥)
place_for_number = ((λ e. omega arith), (λ e. omega arith), (λ e. omega arith), (λ e. omega arith), (λ e. omega arith))

-- `try_from` with one answer for two numbers, each of which has a value of its own
pub one_answer_for_two : (d : (Result Direction UnknownDirection)) (c : (Result CommandCode UnknownCode)) (s : (Result Status UnknownStatus)) (r : (Result ResetOpcode UnknownReset)) (i : StorageIndex)
    → (direction_read_told d ≡ direction_of 0x80 → direction_read_told d ≡ direction_of 0x00 → ⊥)
    × (code_read_told c ≡ code_of 0x14 → code_read_told c ≡ code_of 0x15 → ⊥) × (status_read_told s ≡ status_of 0 → status_read_told s ≡ status_of 1 → ⊥)
    × (reset_read_told r ≡ reset_of 3 → reset_read_told r ≡ reset_of 4 → ⊥) × (i ≡ storage_of 0 → i ≡ storage_of 1 → ⊥)
unfolding by_number known direction_of code_of status_of reset_of storage_of
one_answer_for_two d c s r i = (
  (λ e f. let z : ◌≡◌ {A = ℕ} 0 1 = cc in omega arith),
  (λ e f. let z : ◌≡◌ {A = ℕ} 0 1 = cc in omega arith),
  (λ e f. let z : ◌≡◌ {A = ℕ} 0 1 = cc in omega arith),
  (λ e f. let z : ◌≡◌ {A = ℕ} 0 1 = cc in omega arith),
  (λ e f. let z : ◌≡◌ {A = ℕ} 0 1 = cc in omega arith),
)

-- `try_from` that reads a number as the value of a neighbour
pub read_as_a_neighbour : (direction_read_told (Ok Out) ≡ direction_of 0x80 → ⊥) × (code_read_told (Ok EraseForce) ≡ code_of 0x25 → ⊥)
    × (status_read_told (Ok FAILED) ≡ status_of 2 → ⊥) × (reset_read_told (Ok Maskrom) ≡ reset_of 4 → ⊥) × (Pcie ≡ storage_of 12 → ⊥)
unfolding by_number known direction_of code_of status_of reset_of storage_of direction_read_told code_read_told status_read_told reset_read_told
read_as_a_neighbour = (
  (λ e. let z : ◌≡◌ {A = ℕ} 0 1 = cc in omega arith),
  (λ e. let z : ◌≡◌ {A = ℕ} 0 1 = cc in omega arith),
  (λ e. let z : ◌≡◌ {A = ℕ} 0 1 = cc in omega arith),
  (λ e. let z : ◌≡◌ {A = ℕ} 0 1 = cc in omega arith),
  (λ e. let z : ◌≡◌ {A = ℕ} 0 1 = cc in omega arith),
)

-- `try_from` that tells 0 for an unknown number
pub unknown_number_untold : (direction_read_told (Err (record { 0 = 0 })) ≡ direction_of 1 → ⊥) × (code_read_told (Err (record { 0 = 0 })) ≡ code_of 2 → ⊥)
    × (status_read_told (Err (record { 0 = 0 })) ≡ status_of 2 → ⊥) × (reset_read_told (Err (record { 0 = 0 })) ≡ reset_of 5 → ⊥) × (Unknown 0 ≡ storage_of 13 → ⊥)
unfolding by_number known direction_of code_of status_of reset_of storage_of direction_read_told code_read_told status_read_told reset_read_told
unknown_number_untold = (
  (λ e. let z : ◌≡◌ {A = ℕ} 0 1 = cc in omega arith),
  (λ e. let z : ◌≡◌ {A = ℕ} 0 2 = cc in omega arith),
  (λ e. let z : ◌≡◌ {A = ℕ} 0 2 = cc in omega arith),
  (λ e. let z : ◌≡◌ {A = ℕ} 0 5 = cc in omega arith),
  (λ e. let z : ◌≡◌ {A = ℕ} 0 13 = cc in omega arith),
)

-- `number` of what `try_from` of `Direction`, `CommandCode`, `Status`, `ResetOpcode` answers, with one number for what is known and what is not
pub known_and_unknown_alike : (n : ℕ)
    → (n ≡ number (direction_read_told (Ok In)) → n ≡ number (direction_read_told (Err (record { 0 = 1 }))) → ⊥)
    × (n ≡ number (code_read_told (Ok ReadLBA)) → n ≡ number (code_read_told (Err (record { 0 = 2 }))) → ⊥)
    × (n ≡ number (status_read_told (Ok FAILED)) → n ≡ number (status_read_told (Err (record { 0 = 2 }))) → ⊥)
    × (n ≡ number (reset_read_told (Ok Maskrom)) → n ≡ number (reset_read_told (Err (record { 0 = 5 }))) → ⊥)
unfolding number direction_read_told code_read_told status_read_told reset_read_told
known_and_unknown_alike n = ((λ e f. omega arith), (λ e f. omega arith), (λ e f. omega arith), (λ e f. omega arith))

-- `number` of the same four with the value's own number where there is a value, in place of 0
pub value_for_refusal : (direction_number In ≡ number (direction_read_told (Ok In)) → ⊥) × (code_number ReadLBA ≡ number (code_read_told (Ok ReadLBA)) → ⊥)
    × (status_number FAILED ≡ number (status_read_told (Ok FAILED)) → ⊥) × (reset_number Maskrom ≡ number (reset_read_told (Ok Maskrom)) → ⊥)
unfolding number direction_read_told code_read_told status_read_told reset_read_told
value_for_refusal = ((λ e. omega arith), (λ e. omega arith), (λ e. omega arith), (λ e. omega arith))
