-- What a number is read as, over any enum: the value whose number it is, or the refusal where there is none.
use Prim.Native.Nat.{ℕ}
use mathlib.Core.Path.{◌≡◌, refl, sym}
use mathlib.Core.Bool.{Bool, true, false}
use mathlib.Core.List.{List, [], ◌∷◌}
use native.Mathlib.Omega.{arith}
use borrow.Author.Tests.{eqb-true, ne_eqb}
use lib.Dec.{eqb}
use Rattle.promise.specs.Told.{Told, given, refused}
use Rattle.promise.specs.Rules.{pick}
use Rattle.protocol_codes.specs.Reading.{by_number, known}

-- what the last arm of a `match` knows of n, in the checker's shape: it is none of the arms before, the last of them outermost
abbrev pub Missed : {A : Type 0} → (A → ℕ) → ℕ → List A → Type 0 → Type 0
Missed number n [] before = before
Missed number n (a ∷ rest) before = Missed number n rest (before × (n ≡ number a → ⊥))

missed_both : {A B : Type 0} (found : A → B) (otherwise : B) (number : A → ℕ) (values : List A) (n : ℕ) (before : Type 0)
    → Missed number n values before → before × (by_number found otherwise number values n ≡ otherwise)
unfolding by_number
missed_both found otherwise number [] n before m = (m, refl)
missed_both found otherwise number (a ∷ rest) n before m =
    let both = missed_both found otherwise number rest n (before × (n ≡ number a → ⊥)) m in
    (both.0.0, rw (ne_eqb n (number a) both.0.1) both.1)

pub missed : {A B : Type 0} (found : A → B) (otherwise : B) (number : A → ℕ) (values : List A) (n : ℕ)
    → Missed number n values Unit → by_number found otherwise number values n ≡ otherwise
missed found otherwise number values n m = (missed_both found otherwise number values n Unit m).1

-- what is refused is refused by the number that was read
found_or_refused : {A : Type 0} (t : Bool) (a : A) (rest otherwise : Told A) (m : ℕ) (vs : List ℕ)
    → (rest ≡ refused m vs → rest ≡ otherwise) → pick t (given a) rest ≡ refused m vs → pick t (given a) rest ≡ otherwise
found_or_refused true a rest otherwise m vs later h = let z : ◌≡◌ {A = ℕ} 0 1 = cc in absurd (omega arith)
found_or_refused false a rest otherwise m vs later h = later h

refused_by_lem : {A : Type 0} (otherwise : Told A) (number : A → ℕ) (values : List A) (n m : ℕ) (vs : List ℕ)
    → by_number given otherwise number values n ≡ refused m vs → by_number given otherwise number values n ≡ otherwise
unfolding by_number
refused_by_lem otherwise number [] n m vs h = refl
refused_by_lem otherwise number (a ∷ rest) n m vs h =
    found_or_refused (eqb n (number a)) a (by_number given otherwise number rest n) otherwise m vs (refused_by_lem otherwise number rest n m vs) h

pub known_refused : {A : Type 0} (refusal : ℕ) (number : A → ℕ) (values : List A) (n m : ℕ) (vs : List ℕ)
    → known refusal number values n ≡ refused m vs → known refusal number values n ≡ refused refusal (n ∷ [])
unfolding known
known_refused refusal number values n m vs h = refused_by_lem (refused refusal (n ∷ [])) number values n m vs h

-- what is given has the number that was read
given_here : {A : Type 0} (number : A → ℕ) (t : Bool) (x a : A) (n : ℕ) (rest : Told A)
    → (t ≡ true → n ≡ number x) → (rest ≡ given a → number a ≡ n) → pick t (given x) rest ≡ given a → number a ≡ n
given_here number true x a n rest here later h = let e : x ≡ a = cc in rw (← e) (sym (here refl))
given_here number false x a n rest here later h = later h

pub known_given : {A : Type 0} (refusal : ℕ) (number : A → ℕ) (values : List A) (n : ℕ) (a : A)
    → known refusal number values n ≡ given a → number a ≡ n
unfolding known by_number
known_given refusal number [] n a h = let z : ◌≡◌ {A = ℕ} 0 1 = cc in absurd (omega arith)
known_given refusal number (x ∷ rest) n a h =
    given_here number (eqb n (number x)) x a n (by_number given (refused refusal (n ∷ [])) number rest n) (eqb-true n (number x)) (known_given refusal number rest n a) h
