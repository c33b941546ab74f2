-- Every value reads back as itself, and two answers that tell the same are equal.
use Prim.Native.Nat.{ℕ}
use mathlib.Core.Path.{◌≡◌, refl, ap, sym, ◌∙◌}
use mathlib.Core.List.{[], ◌∷◌, map}
use native.Mathlib.Omega.{arith}
use Rattle.promise.specs.Told.{Told, given, refused, number}
use Rattle.protocol_codes.specs.Numbers.{direction_number, code_number, status_number, reset_number, storage_number, storage_indexes}
use Rattle.rule_number.specs.Number.{number_of}
use Rattle.protocol_codes.specs.Reading.{unknown_direction_number, unknown_code_number, unknown_status_number, unknown_reset_number, by_number, known, direction_of, code_of, status_of, reset_of, storage_of, direction_read_told, code_read_told, status_read_told, reset_read_told}
use Rattle.protocol_codes.specs.declared.Direction.{Direction}
use Rattle.protocol_codes.specs.declared.Direction.TheVariants.{In, Out}
use Rattle.protocol_codes.specs.declared.CommandCode.{CommandCode}
use Rattle.protocol_codes.specs.declared.CommandCode.TheVariants.{TestUnitReady, ReadFlashId, TestBadBlock, ReadSector, WriteSector, EraseNormal, EraseForce, ReadLBA, WriteLBA, EraseSystemDisk, ReadSDram, WriteSDram, ExecuteSDram, ReadFlashInfo, ReadChipInfo, SetResetFlag, WriteEFuse, ReadEFuse, ReadSPIFlash, WriteSPIFlash, WriteNewEfuse, ReadNewEfuse, EraseLBA, SwitchStorage, GetStorageMedia, ReadCapability, DeviceReset}
use Rattle.protocol_codes.specs.declared.Status.{Status}
use Rattle.protocol_codes.specs.declared.Status.TheVariants.{SUCCESS, FAILED}
use Rattle.protocol_codes.specs.declared.ResetOpcode.{ResetOpcode}
use Rattle.protocol_codes.specs.declared.ResetOpcode.TheVariants.{Reset, MSC, PowerOff, Maskrom, Disconnect}
use Rattle.protocol_codes.specs.declared.StorageIndex.{StorageIndex}
use Rattle.protocol_codes.specs.declared.StorageIndex.TheVariants.{Sd1, Unknown}
use Rattle.std.specs.Prelude.{Result}
use Rattle.protocol_codes.specs.declared.UnknownDirection.{UnknownDirection}
use Rattle.std.specs.declared.result.Result.TheVariants.{Ok, Err}
use Rattle.protocol_codes.specs.declared.UnknownCode.{UnknownCode}
use Rattle.protocol_codes.specs.declared.UnknownStatus.{UnknownStatus}
use Rattle.protocol_codes.specs.declared.UnknownReset.{UnknownReset}

pub direction_back : (value : Direction) → direction_of (direction_number value) ≡ given value
unfolding by_number known direction_of
direction_back In = refl
direction_back Out = refl

pub code_back : (value : CommandCode) → code_of (code_number value) ≡ given value
unfolding by_number known code_of
code_back TestUnitReady = refl
code_back ReadFlashId = refl
code_back TestBadBlock = refl
code_back ReadSector = refl
code_back WriteSector = refl
code_back EraseNormal = refl
code_back EraseForce = refl
code_back ReadLBA = refl
code_back WriteLBA = refl
code_back EraseSystemDisk = refl
code_back ReadSDram = refl
code_back WriteSDram = refl
code_back ExecuteSDram = refl
code_back ReadFlashInfo = refl
code_back ReadChipInfo = refl
code_back SetResetFlag = refl
code_back WriteEFuse = refl
code_back ReadEFuse = refl
code_back ReadSPIFlash = refl
code_back WriteSPIFlash = refl
code_back WriteNewEfuse = refl
code_back ReadNewEfuse = refl
code_back EraseLBA = refl
code_back SwitchStorage = refl
code_back GetStorageMedia = refl
code_back ReadCapability = refl
code_back DeviceReset = refl

pub status_back : (value : Status) → status_of (status_number value) ≡ given value
unfolding by_number known status_of
status_back SUCCESS = refl
status_back FAILED = refl

pub reset_back : (value : ResetOpcode) → reset_of (reset_number value) ≡ given value
unfolding by_number known reset_of
reset_back Reset = refl
reset_back MSC = refl
reset_back PowerOff = refl
reset_back Maskrom = refl
reset_back Disconnect = refl

-- every named index reads back as itself
pub storage_back : map (λ (index : StorageIndex). storage_of (storage_number index)) storage_indexes ≡ storage_indexes
unfolding by_number storage_of
storage_back = refl

-- `Unknown(3)` and `Sd1` both write 3 and are told apart
pub same_number : storage_number (Unknown 3) ≡ storage_number Sd1
same_number = refl

pub told_apart : Unknown 3 ≡ Sd1 → ⊥
told_apart e = let z : ◌≡◌ {A = ℕ} 0 1 = cc in omega arith

-- an answer is read off what it tells
module _ {A R : Type 0} (known : A → R) (unknown : ℕ → R) where
  abbrev answer_of : Told A → R
  answer_of (given value) = known value
  answer_of (refused n []) = unknown 0
  answer_of (refused n (byte ∷ more)) = unknown byte

direction_of_lem : (r : (Result Direction UnknownDirection)) → answer_of Ok (λ n. Err (record { 0 = n })) (direction_read_told r) ≡ r
unfolding direction_read_told
direction_of_lem (Ok value) = refl
direction_of_lem (Err unknown) = refl

pub direction_unique : (byte : ℕ) (r s : (Result Direction UnknownDirection)) → direction_read_told r ≡ direction_of byte → direction_read_told s ≡ direction_of byte → r ≡ s
direction_unique byte r s p q = sym (direction_of_lem r) ∙ ap (answer_of Ok (λ n. Err (record { 0 = n }))) (p ∙ sym q) ∙ direction_of_lem s

code_of_lem : (r : (Result CommandCode UnknownCode)) → answer_of Ok (λ n. Err (record { 0 = n })) (code_read_told r) ≡ r
unfolding code_read_told
code_of_lem (Ok value) = refl
code_of_lem (Err unknown) = refl

pub code_unique : (byte : ℕ) (r s : (Result CommandCode UnknownCode)) → code_read_told r ≡ code_of byte → code_read_told s ≡ code_of byte → r ≡ s
code_unique byte r s p q = sym (code_of_lem r) ∙ ap (answer_of Ok (λ n. Err (record { 0 = n }))) (p ∙ sym q) ∙ code_of_lem s

status_of_lem : (r : (Result Status UnknownStatus)) → answer_of Ok (λ n. Err (record { 0 = n })) (status_read_told r) ≡ r
unfolding status_read_told
status_of_lem (Ok value) = refl
status_of_lem (Err unknown) = refl

pub status_unique : (byte : ℕ) (r s : (Result Status UnknownStatus)) → status_read_told r ≡ status_of byte → status_read_told s ≡ status_of byte → r ≡ s
status_unique byte r s p q = sym (status_of_lem r) ∙ ap (answer_of Ok (λ n. Err (record { 0 = n }))) (p ∙ sym q) ∙ status_of_lem s

reset_of_lem : (r : (Result ResetOpcode UnknownReset)) → answer_of Ok (λ n. Err (record { 0 = n })) (reset_read_told r) ≡ r
unfolding reset_read_told
reset_of_lem (Ok value) = refl
reset_of_lem (Err unknown) = refl

pub reset_unique : (byte : ℕ) (r s : (Result ResetOpcode UnknownReset)) → reset_read_told r ≡ reset_of byte → reset_read_told s ≡ reset_of byte → r ≡ s
reset_unique byte r s p q = sym (reset_of_lem r) ∙ ap (answer_of Ok (λ n. Err (record { 0 = n }))) (p ∙ sym q) ∙ reset_of_lem s

-- the number of what is read is the number of what it tells
pub direction_read_number : (r : Result Direction UnknownDirection) → number (direction_read_told r) ≡ number_of unknown_direction_number r
unfolding number direction_read_told
direction_read_number (Ok value) = refl
direction_read_number (Err unknown) = refl

pub code_read_number : (r : Result CommandCode UnknownCode) → number (code_read_told r) ≡ number_of unknown_code_number r
unfolding number code_read_told
code_read_number (Ok value) = refl
code_read_number (Err unknown) = refl

pub status_read_number : (r : Result Status UnknownStatus) → number (status_read_told r) ≡ number_of unknown_status_number r
unfolding number status_read_told
status_read_number (Ok value) = refl
status_read_number (Err unknown) = refl

pub reset_read_number : (r : Result ResetOpcode UnknownReset) → number (reset_read_told r) ≡ number_of unknown_reset_number r
unfolding number reset_read_told
reset_read_number (Ok value) = refl
reset_read_number (Err unknown) = refl
