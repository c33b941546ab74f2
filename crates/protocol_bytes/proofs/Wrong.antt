-- Programs that the contracts rule out: no proof at all can exist for them. A conjunct for each function that could be wrong that way.
use Prim.Native.Nat.{ℕ, ◌+◌, ◌*◌}
use mathlib.Core.Path.{◌≡◌, ap, sym, ◌∙◌}
use mathlib.Core.Bool.{true, false}
use mathlib.Core.List.{List, [], ◌∷◌, reverse}
use native.Mathlib.Omega.{arith}
use lib.ListN.{get_or, length, take}
use Rattle.promise.specs.Told.{number}
use Rattle.promise.specs.Bytes.{low_first, high_first, from_low, from_high}
use Rattle.protocol_bytes.specs.Signature.{usbc, usbs, same, parsed}
use Rattle.protocol_bytes.specs.declared.signature.Parse.{Parse}
use Rattle.std.specs.Prelude.{Result}
use Rattle.protocol_bytes.specs.Writing.{written_told}
use Rattle.std.specs.declared.result.Result.TheVariants.{Ok, Err}

-- bytes 1, 2, 3, 4 and bytes 1, 2
abbrev four : List ℕ
four = 1 ∷ 2 ∷ 3 ∷ 4 ∷ []

abbrev two : List ℕ
two = 1 ∷ 2 ∷ []

-- readers that take the bytes in the other order: `u32_from_le_bytes`, `u32_from_be_bytes`, `u16_from_le_bytes`, `u16_from_be_bytes`
pub read_in_the_other_order : (from_high four ≡ from_low four → ⊥) × (from_low four ≡ from_high four → ⊥) × (from_high two ≡ from_low two → ⊥) × (from_low two ≡ from_high two → ⊥)
unfolding from_low from_high
read_in_the_other_order = ((λ e. omega arith), (λ e. omega arith), (λ e. omega arith), (λ e. omega arith))

-- bytes joined as digits of base 255
abbrev base255 : List ℕ → ℕ
base255 [] = 0
base255 (b ∷ bytes) = b + 255 * base255 bytes

-- readers that join the bytes in base 255, the four of them in the same order
pub joined_in_base_255 : (base255 four ≡ from_low four → ⊥) × (base255 (reverse four) ≡ from_high four → ⊥) × (base255 two ≡ from_low two → ⊥)
    × (base255 (reverse two) ≡ from_high two → ⊥)
unfolding from_low from_high
joined_in_base_255 = ((λ e. omega arith), (λ e. omega arith), (λ e. omega arith), (λ e. omega arith))

-- two lists of bytes that begin with different numbers
begin_apart : (a b : List ℕ) → (get_or a 0 0 ≡ get_or b 0 0 → ⊥) → a ≡ b → ⊥
begin_apart a b apart e = apart (ap (λ (l : List ℕ). get_or l 0 0) e)

-- writers that put the bytes of 1 in the other order: `u32_to_le_bytes`, `u32_to_be_bytes`, `u16_to_le_bytes`, `u16_to_be_bytes`
pub written_in_the_other_order : (high_first 4 1 ≡ low_first 4 1 → ⊥) × (low_first 4 1 ≡ high_first 4 1 → ⊥) × (high_first 2 1 ≡ low_first 2 1 → ⊥)
    × (low_first 2 1 ≡ high_first 2 1 → ⊥)
unfolding low_first high_first
written_in_the_other_order = (
  begin_apart (high_first 4 1) (low_first 4 1) (λ e. omega arith),
  begin_apart (low_first 4 1) (high_first 4 1) (λ e. omega arith),
  begin_apart (high_first 2 1) (low_first 2 1) (λ e. omega arith),
  begin_apart (low_first 2 1) (high_first 2 1) (λ e. omega arith),
)

-- two lists of bytes that end differently, at byte n
end_apart : (n : ℕ) (r a b : List ℕ) → (get_or a n 0 ≡ get_or b n 0 → ⊥) → r ≡ a → r ≡ b → ⊥
end_apart n r a b apart e f = apart (ap (λ (l : List ℕ). get_or l n 0) (sym e ∙ f))

-- writers with the same bytes for 1 and for 2, the four of them in the same order
pub fixed_bytes : (r : List ℕ)
    → (r ≡ low_first 4 1 → r ≡ low_first 4 2 → ⊥) × (r ≡ high_first 4 1 → r ≡ high_first 4 2 → ⊥) × (r ≡ low_first 2 1 → r ≡ low_first 2 2 → ⊥)
    × (r ≡ high_first 2 1 → r ≡ high_first 2 2 → ⊥)
unfolding low_first high_first
fixed_bytes r = (
  end_apart 0 r (low_first 4 1) (low_first 4 2) (λ e. omega arith),
  end_apart 3 r (high_first 4 1) (high_first 4 2) (λ e. omega arith),
  end_apart 0 r (low_first 2 1) (low_first 2 2) (λ e. omega arith),
  end_apart 1 r (high_first 2 1) (high_first 2 2) (λ e. omega arith),
)

true_is_not_false : true ≡ false → ⊥
true_is_not_false e = let z : ◌≡◌ {A = ℕ} 0 1 = cc in omega arith

-- three bytes compared: `USBS` would pass for `USBC`
pub fourth_byte_unlooked : same (take 3 usbs) (take 3 usbc) ≡ same (take 4 usbs) usbc → ⊥
unfolding same
fourth_byte_unlooked e = true_is_not_false e

-- as many bytes compared as there are: `USB` would pass for `USBC`
pub short_bytes_pass : same (take 3 usbc) (take (length (take 3 usbc)) usbc) ≡ same (take 4 (take 3 usbc)) usbc → ⊥
unfolding same
short_bytes_pass e = true_is_not_false e

-- one number for what was written and for what was too short
pub one_number : (r n : ℕ) → r ≡ number (written_told (Ok n)) → r ≡ number (written_told (Err (record {}))) → ⊥
unfolding number written_told
one_number r n e f = omega arith

-- the count of bytes told for the number
pub count_for_number : 31 ≡ number (written_told (Ok 31)) → ⊥
unfolding number written_told
count_for_number e = omega arith

-- an answer with one fixed signature beside it that isn't zeros
pub signature_for_none : {A E : Type 0} (r : Parse A E) (answer : Result A E) → r ≡ parsed answer → get_or r.signature 0 0 ≡ 0x55 → ⊥
signature_for_none {A} {E} r answer e f =
    let z : ◌≡◌ {A = ℕ} 0 0x55 = sym (ap (λ (p : Parse A E). get_or p.signature 0 0) e) ∙ f in omega arith
