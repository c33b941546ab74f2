-- Where a rule gives a value, no refusal before it was broken.
use Prim.Native.Nat.{ℕ}
use mathlib.Core.Path.{◌≡◌, refl}
use mathlib.Core.Bool.{Bool, true, false}
use mathlib.Core.List.{List, ◌∷◌}
use native.Mathlib.Omega.{arith}
use Rattle.promise.specs.Told.{Told, given, refused, and_then}
use Rattle.promise.specs.Rules.{or_refuse, Rule, pick, unless}

not_broken : {A : Type 0} (t : Bool) (n : ℕ) (vs : List ℕ) (later : Told A) (a : A) → pick t (refused n vs) later ≡ given a → (t ≡ false) × (later ≡ given a)
not_broken true n vs later a h = let z : ◌≡◌ {A = ℕ} 0 1 = cc in absurd (omega arith)
not_broken false n vs later a h = (refl, h)

pub rule_met : {A : Type 0} (r : Rule) (rules : List Rule) (answer : Told A) (a : A)
    → unless (r ∷ rules) answer ≡ given a → (r.broken ≡ false) × (unless rules answer ≡ given a)
unfolding or_refuse
rule_met r rules answer a h = not_broken r.broken r.number r.values (unless rules answer) a h

pub first_given : {A B : Type 0} (t : Told A) (f : A → Told B) (b : B) → and_then t f ≡ given b → (a : A) × (t ≡ given a) × (f a ≡ given b)
unfolding and_then
first_given (given a) f b h = (a, refl, h)
first_given (refused n vs) f b h = let z : ◌≡◌ {A = ℕ} 0 1 = cc in absurd (omega arith)
