-- Answers that one contract allows are equal.
use Prim.Native.Nat.{ℕ}
use mathlib.Core.Path.{◌≡◌, refl, ap, sym, ◌∙◌}
use mathlib.Core.List.{List}
use lib.Dec.{eqb}
use lib.ListN.{get_or}
use Rattle.promise.specs.Told.{Told, given, refused, number}
use Rattle.promise.specs.Rules.{pick}
use Rattle.rule_number.specs.Number.{number_of}
use Rattle.loader_records.specs.declared.answer.RkBootError.{RkBootError}
use Rattle.loader_records.specs.declared.answer.RkBootError.TheVariants.{TooShort, UnknownTag, SizeBelowEntry, EntryPastEnd, DataPastEnd}
use Rattle.loader_records.specs.Refusals.{boot_error_number, boot_error_values, boot_told, boot_answer_number, ReadMeets}
use Rattle.std.specs.Prelude.{Result}
use Rattle.std.specs.declared.result.Result.TheVariants.{Ok, Err}

-- the error that number and values name
abbrev pub error_of : ℕ → List ℕ → RkBootError
error_of n values =
    pick (eqb n 70) (TooShort (get_or values 0 0))
    (pick (eqb n 71) UnknownTag
    (pick (eqb n 72) (SizeBelowEntry (get_or values 0 0) (get_or values 1 0))
    (pick (eqb n 73) (EntryPastEnd (get_or values 0 0) (get_or values 1 0)) (DataPastEnd (get_or values 0 0) (get_or values 1 0)))))

pub error_of_lem : (e : RkBootError) (tag : List ℕ) → error_of (boot_error_number e) (boot_error_values e tag) ≡ e
unfolding boot_error_values
error_of_lem (TooShort n) tag = refl
error_of_lem UnknownTag tag = refl
error_of_lem (SizeBelowEntry list entry) tag = refl
error_of_lem (EntryPastEnd list entry) tag = refl
error_of_lem (DataPastEnd list entry) tag = refl

module _ {A : Type 0} where
  answer_of : Told A → Result Unit RkBootError
  answer_of (given value) = Ok tt
  answer_of (refused n values) = Err (error_of n values)

  answer_of_lem : (a : Result Unit RkBootError) (v : A) (t : List ℕ) → answer_of (boot_told a v t) ≡ a
  unfolding answer_of boot_told
  answer_of_lem (Ok u) v t = refl
  answer_of_lem (Err e) v t = ap Err (error_of_lem e t)

  -- of the four readers: the answer, the record beside it and the tag
  pub read_unique : (none : A) (told : Told A) (a b : Result Unit RkBootError) (v w : A) (t u : List ℕ) → ReadMeets a v t none told → ReadMeets b w u none told
      → (a ≡ b) × (v ≡ w) × (t ≡ u)
  read_unique none told a b v w t u p q = (
    sym (answer_of_lem a v t) ∙ ap answer_of (p.tells ∙ sym q.tells) ∙ answer_of_lem b w u,
    p.value ∙ sym q.value,
    p.tag ∙ sym q.tag,
  )

  -- the number of an answer is that of what it tells, whatever stands beside it
  pub boot_number : (a : Result Unit RkBootError) (v : A) (t : List ℕ) → number (boot_told a v t) ≡ boot_answer_number a
  unfolding boot_told number
  boot_number (Ok u) v t = refl
  boot_number (Err e) v t = refl

-- what `number` answers for a reader's answer is the number of what it tells
pub boot_answer_numbered : (a : Result Unit RkBootError) → boot_answer_number a ≡ number_of boot_error_number a
unfolding boot_told number
boot_answer_numbered (Ok u) = refl
boot_answer_numbered (Err e) = refl
