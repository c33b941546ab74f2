-- Programs that the contracts rule out, each at a named input: no proof can exist for them.
use Prim.Native.Nat.{ℕ, ◌≤◌}
use mathlib.Core.Path.{◌≡◌, ap}
use mathlib.Core.List.{List}
use native.Mathlib.Omega.{arith}
use Rattle.promise.specs.Told.{Told, given, refused, number, and_then}
use Rattle.promise.specs.Rules.{or_refuse}
use Rattle.protocol_bytes.specs.Signature.{no_signature}
use Rattle.mock_base.specs.Told.{error_number, result_told, Answers}
use Rattle.mock_base.specs.Flash.{flash_rules, flash_sectors, size_told, size_done, fits_in, range_in, range_told}
use Rattle.mock_base.specs.declared.error.MockTransportError.{MockTransportError}
use Rattle.mock_base.specs.declared.error.MockTransportError.TheVariants.{UnexpectedRead, UnexpectedWrite, StoreLength, TooManySectors}
use Rattle.mock_base.specs.declared.range.FlashRange.{FlashRange}
use Rattle.std.specs.declared.result.Result.TheVariants.{Ok, Err}

-- `number` of `MockTransportError`: one number for a read and a write that were not expected
pub one_number_for_two : (n : ℕ) → n ≡ error_number UnexpectedRead → n ≡ error_number UnexpectedWrite → ⊥
one_number_for_two n first second = omega arith

-- the store's 65 counted on from 63
pub numbers_counted_on : 64 ≡ error_number StoreLength → ⊥
numbers_counted_on e = omega arith

-- `number` of a call's answer: one number whatever came
pub result_one_number : (n : ℕ) → n ≡ number (result_told (Ok tt) no_signature) → n ≡ number (result_told (Err UnexpectedRead) no_signature) → ⊥
unfolding result_told number
result_one_number n first second = omega arith

-- a call that was done told as a refusal
pub done_told_as_refused : (n : ℕ) → 50 ≤ n → n ≡ number (result_told (Ok tt) no_signature) → ⊥
unfolding result_told number
done_told_as_refused n h e = omega arith

-- `number` of a flash's sectors: one number whatever came
pub size_one_number : (n : ℕ) → n ≡ number (size_told (Ok 128)) → n ≡ number (size_told (Err TooManySectors)) → ⊥
unfolding size_told number
size_one_number n first second = omega arith

-- the sectors told for the number
pub sectors_for_the_number : 128 ≡ number (size_told (Ok 128)) → ⊥
unfolding size_told number
sectors_for_the_number e = omega arith

-- `number` of a range: 57 whatever came
pub always_57 : (range : FlashRange) → 57 ≡ number (range_told (Ok range)) → ⊥
unfolding range_told number
always_57 range e = omega arith

-- 0 whatever came
pub never_57 : 0 ≡ number (range_told (Err (record {}))) → ⊥
unfolding range_told number
never_57 e = omega arith

-- `flash_sectors`: a part of a sector taken, whatever number of sectors is told for it
pub part_of_a_sector : (sectors : ℕ) → size_told (Ok sectors) ≡ flash_sectors 513 → ⊥
unfolding size_told flash_sectors flash_rules or_refuse
part_of_a_sector sectors e = let z : ◌≡◌ {A = ℕ} 0 1 = cc in omega arith

-- 65,536 sectors refused, whatever the refusal
pub fewer_sectors : (error : MockTransportError) → size_told (Err error) ≡ flash_sectors 33554432 → ⊥
unfolding size_told flash_sectors flash_rules or_refuse
fewer_sectors error e = let z : ◌≡◌ {A = ℕ} 0 1 = cc in omega arith

-- 61 not told
pub more_sectors : (sectors : ℕ) → size_told (Ok sectors) ≡ flash_sectors 33554944 → ⊥
unfolding size_told flash_sectors flash_rules or_refuse
more_sectors sectors e = let z : ◌≡◌ {A = ℕ} 0 1 = cc in omega arith

-- `size_answer`: a refusal not told, whatever stands beside it
pub refusal_not_told : (error : MockTransportError) (signature : List ℕ)
    → Answers (record { result = Ok tt; signature = signature }) (size_done (Err error)) → ⊥
unfolding size_done size_told and_then result_told
refusal_not_told error signature meets = let z : ◌≡◌ {A = ℕ} 0 1 = cc meets.tells in omega arith

-- a whole flash refused, whatever the refusal
pub whole_flash_refused : (error : MockTransportError) (signature : List ℕ) (sectors : ℕ)
    → Answers (record { result = Err error; signature = signature }) (size_done (Ok sectors)) → ⊥
unfolding size_done size_told and_then result_told
whole_flash_refused error signature sectors meets = let z : ◌≡◌ {A = ℕ} 0 1 = cc meets.tells in omega arith

-- `flash_range`: a range that ends where the flash ends refused (P14)
pub range_off_by_one : range_told (Err (record {})) ≡ range_in 128 128 0 → ⊥
unfolding range_told range_in fits_in or_refuse
range_off_by_one e = let z : ◌≡◌ {A = ℕ} 0 1 = cc in omega arith

-- one that ends a sector beyond it taken, whatever range is told for it (P14)
pub range_past_the_end : (range : FlashRange) → range_told (Ok range) ≡ range_in 128 128 1 → ⊥
unfolding range_told range_in fits_in or_refuse
range_past_the_end range e = let z : ◌≡◌ {A = ℕ} 0 1 = cc in omega arith

first_of : Told FlashRange → ℕ
first_of (given range) = range.first
first_of (refused number values) = 0

-- a range from elsewhere, whatever its count
pub range_from_elsewhere : (count : ℕ) → range_told (Ok (record { first = 0; count = count })) ≡ range_in 128 64 1 → ⊥
unfolding range_told range_in fits_in or_refuse first_of
range_from_elsewhere count e = let differ : ◌≡◌ {A = ℕ} 0 64 = ap first_of e in omega arith
