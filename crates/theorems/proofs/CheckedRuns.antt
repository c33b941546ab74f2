-- Any run behind its checks: one that ended in 28 and one from where it stood are together the run with both their budgets, if the checks pass again.
use Prim.Native.Nat.{ℕ, ◌+◌}
use mathlib.Core.Path.{◌≡◌, refl, ap, ap₂, sym, ◌∙◌}
use mathlib.Core.List.{List, [], ◌∷◌}
use native.Mathlib.Nat.{add_comm}
use native.Mathlib.Omega.{arith}
use Rattle.promise.specs.Told.{Told, refused}
use Rattle.promise.specs.Rules.{Rule, or_refuse}
use Rattle.promise.specs.Run.{Turned, End, tells, out_of_steps, Ran, ran, counted, runs}
use Rattle.promise.proofs.Outcome.{Met, either_way}
use Rattle.promise.proofs.Resumed.{spent_all, resumed, enough}

met_done : {A : Type 0} (refuse : ℕ → List ℕ → A) (rules : List Rule) (done : A) → Met rules → or_refuse refuse rules done ≡ done
unfolding or_refuse
met_done refuse [] done met = refl
met_done refuse (r ∷ rules) done met = rw met.0 (met_done refuse rules done met.1)

told_not_spent : {A : Type 0} {C : Type 0} (told : Told A) → tells told ≡ out_of_steps → C
told_not_spent told e = absurd (let z : ◌≡◌ {A = ℕ} 0 1 = cc in omega arith)

-- an end that is not 28 tells something
by_end : {A : Type 0} {C : Type 0} (e : End A) → (e ≡ out_of_steps → ⊥) → ((told : Told A) → e ≡ tells told → C) → C
by_end (tells told) more go = go told refl
by_end out_of_steps more go = absurd (more refl)

module _ {A S : Type 0} (turn : S → Turned A S) (rules : S → List Rule) where
  abbrev pub checked : ℕ → S → Ran A S
  checked budget s = or_refuse (λ number values. ran (tells (refused number values)) 0 s) (rules s) (runs turn budget s)

  -- a run that ended in 28 met its checks
  pub spent_met : (a : ℕ) (s : S) → (checked a s).end ≡ out_of_steps → Met (rules s) × (checked a s ≡ runs turn a s)
  spent_met a s =
      either_way (λ (r : Ran A S). r.end ≡ out_of_steps → Met (rules s) × (r ≡ runs turn a s)) (λ number values. ran (tells (refused number values)) 0 s)
      (rules s) (runs turn a s) (λ number values e. told_not_spent (refused number values) e) (λ met e. (met, refl))

  pub checked_resumed : (a b : ℕ) (s : S) → (Met (rules s) → Met (rules (runs turn a s).state)) → (checked a s).end ≡ out_of_steps
      → checked (a + b) s ≡ counted (checked a s).steps (checked b (checked a s).state)
  checked_resumed a b s again e =
      let met = spent_met a s e in
      let there = (runs turn a s).state in
      let spent : (runs turn a s).end ≡ out_of_steps = ap (λ (r : Ran A S). r.end) (sym met.1) ∙ e in
      let used : a ≡ (checked a s).steps = sym (spent_all turn a s spent) ∙ ap (λ (r : Ran A S). r.steps) (sym met.1) in
      let rest : runs turn b there ≡ checked b there =
      sym (met_done (λ number values. ran (tells (refused number values)) 0 there) (rules there) (runs turn b there) (again met.0)) in
      met_done (λ number values. ran (tells (refused number values)) 0 s) (rules s) (runs turn (a + b) s) met.0
      ∙ resumed turn a b s spent
      ∙ ap₂ (λ (k : ℕ) (r : Ran A S). counted k r) used rest
      ∙ ap (λ (r : Ran A S). counted (checked a s).steps (checked b r.state)) (sym met.1)

  -- a budget that is never used up from the start may be had again after a run that ended in 28
  pub checked_whole : (a b : ℕ) (s : S) → (Met (rules s) → Met (rules (runs turn a s).state)) → (checked a s).end ≡ out_of_steps
      → ((checked b s).end ≡ out_of_steps → ⊥) → checked b s ≡ counted (checked a s).steps (checked b (checked a s).state)
  checked_whole a b s again e ended =
      let met = spent_met a s e in
      let refuse : ℕ → List ℕ → Ran A S = λ number values. ran (tells (refused number values)) 0 s in
      let all : (n : ℕ) → checked n s ≡ runs turn n s = λ n. met_done refuse (rules s) (runs turn n s) met.0 in
      by_end (runs turn b s).end (λ f. ended (ap (λ (r : Ran A S). r.end) (all b) ∙ f)) (λ told f.
      all b ∙ sym (enough turn b a s told f) ∙ ap (λ (n : ℕ). runs turn n s) (add_comm b a) ∙ sym (all (a + b)) ∙ checked_resumed a b s again e)
