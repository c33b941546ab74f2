-- The library's words for bytes say the same as ours.
use Prim.Native.Nat.{ℕ, ◌/◌, ◌%◌}
use mathlib.Core.Path.{◌≡◌, refl, ap, ap₂, sym, ◌∙◌}
use mathlib.Core.List.{List, [], ◌∷◌}
use native.Mathlib.Omega.{arith}
use lib.ListN.{length, take}
use lib.Dec.{eqb}
use lib.Pointwise.{bytes_decides}
use mathlib.Core.Bool.{Bool, true, false, true≢false}
use Rattle.std.specs.List.{starts_with}
use Rattle.protocol_bytes.proofs.Same.{same_itself, same_differs}
use Rattle.protocol_bytes.specs.Signature.{same}
use Rattle.std.specs.Int.{w16, w32, from_le_bytes, from_be_bytes, to_le_bytes, to_be_bytes}
use Rattle.promise.specs.Bytes.{low_first, high_first, from_low, from_high}
use Rattle.protocol_bytes.proofs.Short.{all_elements}

pub low_4 : (b : List ℕ) → length b ≡ 4 → from_le_bytes w32 b ≡ from_low b
unfolding from_low
low_4 b long = omega (arith, ap from_low (all_elements 4 b long))

pub high_4 : (b : List ℕ) → length b ≡ 4 → from_be_bytes w32 b ≡ from_high b
unfolding from_low from_high
high_4 b long = omega (arith, ap from_high (all_elements 4 b long))

pub low_2 : (b : List ℕ) → length b ≡ 2 → from_le_bytes w16 b ≡ from_low b
unfolding from_low
low_2 b long = omega (arith, ap from_low (all_elements 2 b long))

pub high_2 : (b : List ℕ) → length b ≡ 2 → from_be_bytes w16 b ≡ from_high b
unfolding from_low from_high
high_2 b long = omega (arith, ap from_high (all_elements 2 b long))

-- the third and the fourth byte, by one division or by several
twice : (n : ℕ) → n / 65536 ≡ n / 256 / 256
twice n = omega arith

thrice : (n : ℕ) → n / 16777216 ≡ n / 256 / 256 / 256
thrice n = omega arith

pub to_low_4 : (n : ℕ) → to_le_bytes w32 n ≡ low_first 4 n
unfolding low_first
to_low_4 n = ap₂ (λ (a b : ℕ). n % 256 ∷ n / 256 % 256 ∷ a % 256 ∷ b % 256 ∷ []) (twice n) (thrice n)

pub to_high_4 : (n : ℕ) → to_be_bytes w32 n ≡ high_first 4 n
unfolding low_first high_first
to_high_4 n = ap₂ (λ (a b : ℕ). b % 256 ∷ a % 256 ∷ n / 256 % 256 ∷ n % 256 ∷ []) (twice n) (thrice n)

pub to_low_2 : (n : ℕ) → to_le_bytes w16 n ≡ low_first 2 n
unfolding low_first
to_low_2 n = refl

pub to_high_2 : (n : ℕ) → to_be_bytes w16 n ≡ high_first 2 n
unfolding low_first high_first
to_high_2 n = refl

-- a test that decides whether two lists are equal says what `same` does
decided : (xs ys : List ℕ) (test : Bool) → (test ≡ true → ys ≡ xs) → (ys ≡ xs → test ≡ true) → test ≡ same xs ys
decided xs ys true equal passes = sym (ap (same xs) (equal refl) ∙ same_itself xs)
decided xs ys false equal passes = sym (same_differs xs ys (λ e. true≢false (sym (passes (sym e)))))

pub begins : (bytes signature : List ℕ) → length signature ≡ 4 → starts_with eqb bytes signature ≡ same (take 4 bytes) signature
begins bytes signature long =
    let decides = bytes_decides signature (take (length signature) bytes) in
    decided (take (length signature) bytes) signature (starts_with eqb bytes signature) decides.0 decides.1
    ∙ ap (λ (n : ℕ). same (take n bytes) signature) long
