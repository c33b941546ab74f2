-- What a number is read as: the value whose number it is, and a refusal that tells the number where there is none.
use Rattle.std.specs.Prelude.{ℕ, List, [], ◌∷◌, eqb, Result}
use Rattle.std.specs.declared.result.Result.TheVariants.{Ok, Err}
use Rattle.promise.specs.Told.{Told, given, refused}
use Rattle.promise.specs.Rules.{pick}
use Rattle.protocol_codes.specs.Numbers.{code_number, command_codes, direction_number, directions, status_number, statuses, reset_number, reset_opcodes, storage_number, storage_indexes}
use Rattle.protocol_codes.specs.declared.Direction.{Direction}
use Rattle.protocol_codes.specs.declared.CommandCode.{CommandCode}
use Rattle.protocol_codes.specs.declared.Status.{Status}
use Rattle.protocol_codes.specs.declared.ResetOpcode.{ResetOpcode}
use Rattle.protocol_codes.specs.declared.StorageIndex.{StorageIndex}
use Rattle.protocol_codes.specs.declared.UnknownDirection.{UnknownDirection}
use Rattle.protocol_codes.specs.declared.UnknownCode.{UnknownCode}
use Rattle.protocol_codes.specs.declared.UnknownStatus.{UnknownStatus}
use Rattle.protocol_codes.specs.declared.UnknownReset.{UnknownReset}
use Rattle.protocol_codes.specs.declared.StorageIndex.TheVariants as storage

-- the first of a list whose number is n, as `found` takes it; `otherwise` where no number of the list is n
unfoldable pub by_number : {A B : Type 0} → (A → B) → B → (A → ℕ) → List A → ℕ → B
by_number found otherwise number [] n = otherwise
by_number found otherwise number (a ∷ rest) n = pick (eqb n (number a)) (found a) (by_number found otherwise number rest n)

-- the value whose number the byte is, or the refusal that tells the byte
unfoldable pub known : {A : Type 0} → ℕ → (A → ℕ) → List A → ℕ → Told A
known refusal number values byte = by_number given (refused refusal (byte ∷ [])) number values byte

-- 3: flags that are not 0x80 or 0
unfoldable pub direction_of : ℕ → Told Direction
direction_of byte = known 3 direction_number directions byte

abbrev pub unknown_direction_number : UnknownDirection → ℕ
unknown_direction_number unknown = 3

unfoldable pub direction_read_told : Result Direction UnknownDirection → Told Direction
direction_read_told (Ok value) = given value
direction_read_told (Err unknown) = refused (unknown_direction_number unknown) (unknown.0 ∷ [])

-- 4: a code that is not listed
unfoldable pub code_of : ℕ → Told CommandCode
code_of byte = known 4 code_number command_codes byte

abbrev pub unknown_code_number : UnknownCode → ℕ
unknown_code_number unknown = 4

unfoldable pub code_read_told : Result CommandCode UnknownCode → Told CommandCode
code_read_told (Ok value) = given value
code_read_told (Err unknown) = refused (unknown_code_number unknown) (unknown.0 ∷ [])

-- 7: a status above 1
unfoldable pub status_of : ℕ → Told Status
status_of byte = known 7 status_number statuses byte

abbrev pub unknown_status_number : UnknownStatus → ℕ
unknown_status_number unknown = 7

unfoldable pub status_read_told : Result Status UnknownStatus → Told Status
status_read_told (Ok value) = given value
status_read_told (Err unknown) = refused (unknown_status_number unknown) (unknown.0 ∷ [])

-- 52: a reset's opcode above 4
unfoldable pub reset_of : ℕ → Told ResetOpcode
reset_of byte = known 52 reset_number reset_opcodes byte

abbrev pub unknown_reset_number : UnknownReset → ℕ
unknown_reset_number unknown = 52

unfoldable pub reset_read_told : Result ResetOpcode UnknownReset → Told ResetOpcode
reset_read_told (Ok value) = given value
reset_read_told (Err unknown) = refused (unknown_reset_number unknown) (unknown.0 ∷ [])

-- 0 to 12 named, any other unknown by its number
unfoldable pub storage_of : ℕ → StorageIndex
storage_of byte = by_number (λ index. index) (storage.Unknown byte) storage_number storage_indexes byte
