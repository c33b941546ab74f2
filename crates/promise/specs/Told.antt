-- What an answer tells, in the terms of the rules.
use Rattle.std.specs.Prelude.{ℕ, List}

-- a value, which is number 0, or the number of a refusal in the rules with its values
pub data Told (A : Type 0) : Type 0 where
  given : A → Told A
  refused : ℕ → List ℕ → Told A

-- the number that the rules have for it
unfoldable pub number : {A : Type 0} → Told A → ℕ
number (given a) = 0
number (refused n vs) = n

-- what is told once the value is known: a refusal is passed on
unfoldable pub and_then : {A B : Type 0} → Told A → (A → Told B) → Told B
and_then (given a) f = f a
and_then (refused n vs) f = refused n vs
