-- The first broken rule answers, every earlier rule being met.
use Prim.Native.Nat.{ℕ}
use mathlib.Core.Path.{◌≡◌, refl}
use mathlib.Core.Bool.{Bool, true, false}
use mathlib.Core.List.{List, [], ◌∷◌, ◌++◌}
use Rattle.promise.specs.Rules.{Rule, or_refuse}
use Rattle.promise.proofs.Outcome.{Met}

pub all_met : {A : Type 0} (refuse : ℕ → List ℕ → A) (rules : List Rule) (done : A) → Met rules → or_refuse refuse rules done ≡ done
unfolding or_refuse
all_met refuse [] done h = refl
all_met refuse (r ∷ rules) done h = rw h.0 (all_met refuse rules done h.1)

pub first_broken : {A : Type 0} (refuse : ℕ → List ℕ → A) (earlier : List Rule) (r : Rule) (later : List Rule) (done : A)
    → Met earlier → r.broken ≡ true → or_refuse refuse (earlier ++ r ∷ later) done ≡ refuse r.number r.values
unfolding or_refuse
first_broken refuse [] r later done h b = rw b
first_broken refuse (e ∷ earlier) r later done h b = rw h.0 (first_broken refuse earlier r later done h.1 b)
