-- Number and values for every refusal of a loader file and for every answer of reading a record, and the shape of a reader's promise.
use Rattle.std.specs.Prelude.{ℕ, ◌≡◌, List, [], ◌∷◌, Result}
use Rattle.promise.specs.Told.{Told, given, refused, number}
use Rattle.protocol_bytes.specs.Signature.{no_signature, signature_in}
use Rattle.loader_records.specs.declared.answer.RkBootError.{RkBootError}
use Rattle.loader_records.specs.declared.answer.RkBootError.TheVariants.{TooShort, UnknownTag, SizeBelowEntry, EntryPastEnd, DataPastEnd}
use Rattle.std.specs.declared.result.Result.TheVariants.{Ok, Err}

-- 70 slice shorter than the record, 71 tag, 72 a list's size field, 73 an entry past the file's end, 74 data past it
abbrev pub boot_error_number : RkBootError → ℕ
boot_error_number (TooShort n) = 70
boot_error_number UnknownTag = 71
boot_error_number (SizeBelowEntry list entry) = 72
boot_error_number (EntryPastEnd list entry) = 73
boot_error_number (DataPastEnd list entry) = 74

-- the second argument is the tag beside the error
unfoldable pub boot_error_values : RkBootError → List ℕ → List ℕ
boot_error_values (TooShort n) tag = n ∷ []
boot_error_values UnknownTag tag = tag
boot_error_values (SizeBelowEntry list entry) tag = list ∷ entry ∷ []
boot_error_values (EntryPastEnd list entry) tag = list ∷ entry ∷ []
boot_error_values (DataPastEnd list entry) tag = list ∷ entry ∷ []

abbrev pub boot_error_told : {A : Type 0} → RkBootError → List ℕ → Told A
boot_error_told error tag = refused (boot_error_number error) (boot_error_values error tag)

-- a record's answer, with the record and the tag beside it
unfoldable pub boot_told : {A : Type 0} → Result Unit RkBootError → A → List ℕ → Told A
boot_told (Ok u) value tag = given value
boot_told (Err error) value tag = boot_error_told error tag

-- the value that is told, or this one where none is
unfoldable pub value_in : {A : Type 0} → A → Told A → A
value_in none (given value) = value
value_in none (refused n values) = none

-- what stands where there is no tag to tell
abbrev pub no_tag : List ℕ
no_tag = no_signature

-- the number of what an answer tells, whatever stands beside it
abbrev pub boot_answer_number : Result Unit RkBootError → ℕ
boot_answer_number a = number (boot_told {A = ℕ} a 0 no_tag)

-- the tag that 71 tells, zeros where anything else is told
abbrev pub tag_in : {A : Type 0} → Told A → List ℕ
tag_in told = signature_in 71 told

-- a reader that answers a, with record v and tag t beside it, where `told` is right and `none` stands where no record was read
pub record ReadMeets {A : Type 0} (a : Result Unit RkBootError) (v : A) (t : List ℕ) (none : A) (told : Told A) : Type 0 where
  pub tells : boot_told a v t ≡ told
  pub value : v ≡ value_in none told
  pub tag : t ≡ tag_in told
