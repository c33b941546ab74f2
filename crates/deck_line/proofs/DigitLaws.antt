-- Decimal and hex text is read back as what it was made of, has digits alone, and is as long as stated; decimal has no 0 in front of others.
use Prim.Native.Nat.{ℕ, zero, suc, ◌+◌, ◌-◌, ◌*◌, ◌/◌, ◌%◌, ◌^◌, ◌≤◌, ◌<◌}
use mathlib.Core.Path.{◌≡◌, refl, ap, sym, subst, ◌∙◌}
use mathlib.Core.Bool.{Bool}
use mathlib.Core.List.{List, [], ◌∷◌, ◌++◌}
use mathlib.Core.Logic.{◌⊎◌, inl, inr}
use native.Mathlib.Nat.{not-suc-le-zero}
use native.Mathlib.Omega.{arith}
use lib.ListN.{length, get_or, length-append, get_or-append}
use lib.Dec.{ltb}
use borrow.Author.Tests.{ltb-true, ltb-false, lt-ltb, le-ltb}
use Rattle.promise.specs.Rules.{pick}
use Rattle.promise.specs.Bytes.{AreBytes}
use Rattle.promise.proofs.Outcome.{on_test}
use Rattle.deck_line.specs.Digits.{digit, digits, decimal, hex, value_of, read_on, from_decimal, from_hex, IsDecimal, IsLetter, Each}

-- a digit below 10, and one from 10 on
pub digit_low : (d : ℕ) → d < 10 → digit d ≡ 48 + d
unfolding digit
digit_low d h = ap (λ (t : Bool). pick t (48 + d) (87 + d)) (lt-ltb d 10 h)

pub digit_high : (d : ℕ) → 10 ≤ d → digit d ≡ 87 + d
unfolding digit
digit_high d h = ap (λ (t : Bool). pick t (48 + d) (87 + d)) (le-ltb d 10 h)

value_low : (d : ℕ) → d < 10 → value_of (48 + d) ≡ d
unfolding value_of
value_low d h = ap (λ (t : Bool). pick t (48 + d - 48) (48 + d - 87)) (lt-ltb (48 + d) 97 (omega arith)) ∙ omega arith

value_high : (d : ℕ) → 10 ≤ d → value_of (87 + d) ≡ d
unfolding value_of
value_high d h = ap (λ (t : Bool). pick t (87 + d - 48) (87 + d - 87)) (le-ltb (87 + d) 97 (omega arith)) ∙ omega arith

-- the character of a digit has its value
pub digit_back : (d : ℕ) → value_of (digit d) ≡ d
digit_back d =
    on_test (ltb d 10)
    (λ t. let h = ltb-true d 10 t in ap value_of (digit_low d h) ∙ value_low d h)
    (λ t. let h = ltb-false d 10 t in ap value_of (digit_high d h) ∙ value_high d h)

none : (most : ℕ) → digits most 0 ≡ []
unfolding digits
none zero = refl
none (suc most) = refl

-- every bound that is enough gives the same digits
enough : (a b n : ℕ) → n ≤ a → n ≤ b → digits a n ≡ digits b n
unfolding digits
enough zero zero n ha hb = refl
enough zero (suc b) zero ha hb = refl
enough zero (suc b) (suc n) ha hb = absurd (not-suc-le-zero ha)
enough (suc a) zero zero ha hb = refl
enough (suc a) zero (suc n) ha hb = absurd (not-suc-le-zero hb)
enough (suc a) (suc b) zero ha hb = refl
enough (suc a) (suc b) (suc n) ha hb =
    ap (λ (t : List ℕ). t ++ (digit (suc n % 10) ∷ [])) (enough a b (suc n / 10) (omega arith) (omega arith))

-- a number above 0 has the digits of its decimal
whole : (a n : ℕ) → 0 < n → n ≤ a → digits a n ≡ decimal n
unfolding digits decimal
whole zero zero p h = absurd (not-suc-le-zero p)
whole zero (suc n) p h = absurd (not-suc-le-zero h)
whole (suc a) zero p h = absurd (not-suc-le-zero p)
whole (suc a) (suc n) p h = ap (λ (t : List ℕ). t ++ (digit (suc n % 10) ∷ [])) (enough a (suc n) (suc n / 10) (omega arith) (omega arith))

-- decimal as it is counted: a number below 10 is one digit, any other its tenth part and then its last digit
pub below_ten : (n : ℕ) → n < 10 → decimal n ≡ digit (n % 10) ∷ []
unfolding decimal
below_ten n h =
    let tenth : n / 10 ≡ 0 = omega arith in
    ap (λ (t : List ℕ). t ++ (digit (n % 10) ∷ [])) (ap (digits n) tenth ∙ none n)

pub from_ten : (n : ℕ) → 10 ≤ n → decimal n ≡ decimal (n / 10) ++ (digit (n % 10) ∷ [])
unfolding decimal
from_ten n h = ap (λ (t : List ℕ). t ++ (digit (n % 10) ∷ [])) (whole n (n / 10) (omega arith) (omega arith))

-- what holds of numbers below 10, and of any other if it does of its tenth part, holds of all
module _ (P : ℕ → Type 0) (small : (n : ℕ) → n < 10 → P n) (large : (n : ℕ) → 10 ≤ n → P (n / 10) → P n) where
  up_to : (most n : ℕ) → n ≤ most → P n
  up_to zero n h = small n (omega arith)
  up_to (suc most) n h =
      on_test (ltb n 10) (λ t. small n (ltb-true n 10 t))
      (λ t. let ten = ltb-false n 10 t in large n ten (up_to most (n / 10) (omega arith)))

  pub by_tenths : (n : ℕ) → P n
  by_tenths n = up_to n n (omega arith)

read_append : (n : ℕ) (a b : List ℕ) → read_on n (a ++ b) ≡ read_on (read_on n a) b
unfolding read_on
read_append n [] b = refl
read_append n (c ∷ a) b = read_append (n * 10 + value_of c) a b

-- decimal is read back
pub decimal_back : (n : ℕ) → from_decimal (decimal n) ≡ n
unfolding read_on
decimal_back =
    by_tenths (λ n. from_decimal (decimal n) ≡ n)
    (λ n h. ap from_decimal (below_ten n h) ∙ omega (arith, digit_back (n % 10)))
    (λ n h before.
    ap from_decimal (from_ten n h) ∙ read_append 0 (decimal (n / 10)) (digit (n % 10) ∷ [])
    ∙ ap (λ (k : ℕ). k * 10 + value_of (digit (n % 10))) before
    ∙ omega (arith, digit_back (n % 10)))

each_append : (P : ℕ → Type 0) (a b : List ℕ) → Each P a → Each P b → Each P (a ++ b)
each_append P [] b ha hb = hb
each_append P (c ∷ a) b ha hb = (ha.0, each_append P a b ha.1 hb)

is_decimal : (d : ℕ) → d < 10 → IsDecimal (digit d)
is_decimal d h = let e = digit_low d h in (omega arith, omega arith)

-- its characters are `0` to `9`
pub decimal_digits : (n : ℕ) → Each IsDecimal (decimal n)
decimal_digits =
    by_tenths (λ n. Each IsDecimal (decimal n))
    (λ n h. subst (Each IsDecimal) (sym (below_ten n h)) (is_decimal (n % 10) (omega arith), tt))
    (λ n h before.
    subst (Each IsDecimal) (sym (from_ten n h))
    (each_append IsDecimal (decimal (n / 10)) (digit (n % 10) ∷ []) before (is_decimal (n % 10) (omega arith), tt)))

-- it has one at least
pub decimal_some : (n : ℕ) → 0 < length (decimal n)
unfolding decimal
decimal_some n = omega (arith, length-append (digits n (n / 10)) (digit (n % 10) ∷ []))

-- the first is `0` at 0 alone
pub no_leading_zero : (n : ℕ) → get_or (decimal n) 0 0 ≡ 48 → n ≡ 0
no_leading_zero =
    by_tenths (λ n. get_or (decimal n) 0 0 ≡ 48 → n ≡ 0)
    (λ n h e.
    let first : digit (n % 10) ≡ 48 = sym (ap (λ (t : List ℕ). get_or t 0 0) (below_ten n h)) ∙ e in
    omega (arith, digit_low (n % 10) (omega arith)))
    (λ n h before e.
    let first : get_or (decimal (n / 10)) 0 0 ≡ 48 =
    sym (get_or-append (decimal (n / 10)) (digit (n % 10) ∷ []) 0 0 (decimal_some (n / 10)))
    ∙ sym (ap (λ (t : List ℕ). get_or t 0 0) (from_ten n h)) ∙ e in
    omega (arith, before first))

-- a number below 10 to the k has k digits at most
pub decimal_length : (k n : ℕ) → n < 10 ^ suc k → length (decimal n) ≤ suc k
decimal_length zero n h = let e = ap length (below_ten n h) in omega arith
decimal_length (suc k) n h =
    on_test (ltb n 10) (λ t. let e = ap length (below_ten n (ltb-true n 10 t)) in omega arith)
    (λ t.
    let ten = ltb-false n 10 t in
    let e = ap length (from_ten n ten) ∙ length-append (decimal (n / 10)) (digit (n % 10) ∷ []) in
    let rest = decimal_length k (n / 10) (omega arith) in omega arith)

-- bytes in hex are read back
pub hex_back : (bs : List ℕ) → from_hex (hex bs) ≡ bs
unfolding hex from_hex
hex_back [] = refl
hex_back (b ∷ bs) =
    let first : value_of (digit (b / 16)) * 16 + value_of (digit (b % 16)) ≡ b = omega (arith, digit_back (b / 16), digit_back (b % 16)) in
    ap (λ (n : ℕ). n ∷ from_hex (hex bs)) first ∙ ap (λ (t : List ℕ). b ∷ t) (hex_back bs)

is_hex : (d : ℕ) → d < 16 → IsDecimal (digit d) ⊎ IsLetter (digit d)
is_hex d h =
    on_test (ltb d 10) (λ t. inl (is_decimal d (ltb-true d 10 t)))
    (λ t. let e = digit_high d (ltb-false d 10 t) in inr (let ten = ltb-false d 10 t in (omega arith, omega arith)))

-- the characters of hex are `0` to `9` and `a` to `f`, in lower case
pub hex_digits : (bs : List ℕ) → AreBytes bs → Each (λ c. IsDecimal c ⊎ IsLetter c) (hex bs)
unfolding hex
hex_digits [] h = tt
hex_digits (b ∷ bs) h =
    let byte = h 0 in
    (is_hex (b / 16) (omega arith), (is_hex (b % 16) (omega arith), hex_digits bs (λ i. h (suc i))))

-- two a byte
pub hex_length : (bs : List ℕ) → length (hex bs) ≡ 2 * length bs
unfolding hex
hex_length [] = refl
hex_length (b ∷ bs) = let rest = hex_length bs in omega arith
