-- `same` says whether two lists are equal.
use Prim.Native.Nat.{ℕ}
use mathlib.Core.Path.{◌≡◌, refl, ap₂}
use mathlib.Core.Bool.{Bool, true, false}
use mathlib.Core.List.{List, [], ◌∷◌}
use native.Mathlib.Omega.{arith}
use lib.Dec.{eqb}
use borrow.Author.Tests.{eqb-true, eq-eqb}
use Rattle.promise.specs.Rules.{pick}
use Rattle.protocol_bytes.specs.Signature.{same}

both_true : (t u : Bool) → pick t u false ≡ true → (t ≡ true) × (u ≡ true)
both_true true u h = (refl, h)
both_true false u h = let z : ◌≡◌ {A = ℕ} 0 1 = cc in absurd (omega arith)

pub pick_itself : (t : Bool) → pick t true false ≡ t
pick_itself true = refl
pick_itself false = refl

pub same_equal : (xs ys : List ℕ) → same xs ys ≡ true → xs ≡ ys
unfolding same
same_equal [] [] h = refl
same_equal [] (y ∷ ys) h = let z : ◌≡◌ {A = ℕ} 0 1 = cc in absurd (omega arith)
same_equal (x ∷ xs) [] h = let z : ◌≡◌ {A = ℕ} 0 1 = cc in absurd (omega arith)
same_equal (x ∷ xs) (y ∷ ys) h =
    let both = both_true (eqb x y) (same xs ys) h in
    ap₂ (λ (a : ℕ) (l : List ℕ). a ∷ l) (eqb-true x y both.0) (same_equal xs ys both.1)

pub same_itself : (xs : List ℕ) → same xs xs ≡ true
unfolding same
same_itself [] = refl
same_itself (x ∷ xs) = rw (eq-eqb x x refl) (same_itself xs)

not_true_false : (t : Bool) → (t ≡ true → ⊥) → t ≡ false
not_true_false true h = absurd (h refl)
not_true_false false h = refl

pub same_differs : (xs ys : List ℕ) → (xs ≡ ys → ⊥) → same xs ys ≡ false
same_differs xs ys h = not_true_false (same xs ys) (λ e. h (same_equal xs ys e))
