-- What a loop over turns keeps: with `used` of the budget gone, the run from here is the rest of the run from the start.
use Prim.Native.Nat.{ℕ, zero, suc, ◌+◌, ◌-◌, ◌<◌, ◌≤◌}
use mathlib.Core.Path.{◌≡◌, refl, ap, sym, ◌∙◌}
use native.Mathlib.Nat.{zero-add, add-zero, add_assoc, sub-zero, sub_self}
use native.Mathlib.Omega.{arith}
use Rattle.promise.specs.Told.{Told}
use Rattle.promise.specs.Run.{Turned, ends, goes, tells, out_of_steps, Ran, ran, counted, follow, runs}

-- `used` steps of a run that is `whole` in the end brought it to s
pub record On {A S : Type 0} (turn : S → Turned A S) (budget used : ℕ) (whole : Ran A S) (s : S) : Type 0 where
  pub within : used ≤ budget
  pub rest : counted used (runs turn (budget - used) s) ≡ whole

module _ {A S : Type 0} (turn : S → Turned A S) where
  pub one_more : (budget used : ℕ) (s : S) → used < budget → runs turn (budget - used) s ≡ follow (turn s) (λ next. runs turn (budget - (used + 1)) next)
  unfolding runs
  one_more budget used s h =
      let e : budget - used ≡ suc (budget - (used + 1)) = omega arith in
      ap (λ (k : ℕ). runs turn k s) e

  pub begins : (budget : ℕ) (s : S) → On turn budget 0 (runs turn budget s) s
  begins budget s = record { within = omega arith; rest = rw (sub-zero) (ap (λ (k : ℕ). ran (runs turn budget s).end k (runs turn budget s).state) (zero-add (runs turn budget s).steps)) }

  pub goes_on : {whole : Ran A S} (budget used : ℕ) (s s' : S) → used < budget → turn s ≡ goes s' → On turn budget used whole s
      → On turn budget (used + 1) whole s'
  unfolding follow
  goes_on budget used s s' h e on =
      let next = runs turn (budget - (used + 1)) s' in
      let turned : runs turn (budget - used) s ≡ counted 1 next = rw (one_more budget used s h, e) in
      record { within = omega arith; rest = ap (λ (k : ℕ). ran next.end k next.state) (add_assoc used 1 next.steps) ∙ ap (counted used) (sym turned) ∙ on.rest }

  pub stops : {whole : Ran A S} (budget used : ℕ) (s s' : S) (told : Told A) → used < budget → turn s ≡ ends told s' → On turn budget used whole s
      → whole ≡ ran (tells told) (used + 1) s'
  unfolding follow
  stops budget used s s' told h e on =
      let turned : runs turn (budget - used) s ≡ ran (tells told) 1 s' = rw (one_more budget used s h, e) in
      sym on.rest ∙ ap (counted used) turned

  pub spent : {whole : Ran A S} (budget used : ℕ) (s : S) → used ≡ budget → On turn budget used whole s → whole ≡ ran out_of_steps used s
  unfolding runs
  spent budget used s e on =
      let none : budget - used ≡ 0 = omega arith in
      sym on.rest ∙ ap (λ (k : ℕ). counted used (runs turn k s)) none ∙ ap (λ (k : ℕ). ran out_of_steps k s) (add-zero used)
