-- What holds of every run: its count, a run that goes on after its budget was used, and a budget of exactly the steps needed.
use Prim.Native.Nat.{ℕ, zero, suc, ◌+◌, ◌≤◌, ◌<◌}
use mathlib.Core.Path.{◌≡◌, refl, ap, sym, ◌∙◌}
use native.Mathlib.Nat.{zero-add, suc-add, add_assoc}
use native.Mathlib.Numerals.{one-add}
use native.Mathlib.Omega.{arith}
use Rattle.promise.specs.Told.{Told}
use Rattle.promise.specs.Run.{Turned, ends, goes, tells, out_of_steps, Ran, ran, counted, follow, runs}

-- a run with none, or with more steps before it
pub counted_none : {A S : Type 0} (r : Ran A S) → counted 0 r ≡ r
counted_none r = ap (λ (k : ℕ). ran r.end k r.state) (zero-add r.steps)

pub counted_twice : {A S : Type 0} (j k : ℕ) (r : Ran A S) → counted j (counted k r) ≡ counted (j + k) r
counted_twice j k r = ap (λ (n : ℕ). ran r.end n r.state) (sym (add_assoc j k r.steps))

-- a run that told something was not out of steps
told_not_spent : {A : Type 0} {C : Type 0} (told : Told A) → tells told ≡ out_of_steps → C
told_not_spent told e = absurd (let z : ◌≡◌ {A = ℕ} 0 1 = cc in omega arith)

-- what holds of a run whose first turn is its last, and of one that goes on, holds of both
by_turn : {A S : Type 0} (P : Ran A S → Ran A S → Type 0) (t : Turned A S) (short long : S → Ran A S)
    → ((told : Told A) (s : S) → P (ran (tells told) 1 s) (ran (tells told) 1 s)) → ((s : S) → P (counted 1 (short s)) (counted 1 (long s)))
    → P (follow t short) (follow t long)
unfolding follow
by_turn P (ends told s) short long f g = f told s
by_turn P (goes s) short long f g = g s

module _ {A S : Type 0} (turn : S → Turned A S) where
  -- 28: the count is then the budget
  pub spent_all : (budget : ℕ) (s : S) → (runs turn budget s).end ≡ out_of_steps → (runs turn budget s).steps ≡ budget
  unfolding runs
  spent_all zero s e = refl
  spent_all (suc budget) s e =
      by_turn (λ (r _ : Ran A S). r.end ≡ out_of_steps → r.steps ≡ suc budget) (turn s) (λ next. runs turn budget next) (λ next. runs turn budget next)
      (λ told next e'. told_not_spent told e')
      (λ next e'. ap (λ (k : ℕ). 1 + k) (spent_all budget next e') ∙ one-add budget) e

  pub never_more : (budget : ℕ) (s : S) → (runs turn budget s).steps ≤ budget
  unfolding runs
  never_more zero s = omega arith
  never_more (suc budget) s =
      by_turn (λ (r _ : Ran A S). r.steps ≤ suc budget) (turn s) (λ next. runs turn budget next) (λ next. runs turn budget next)
      (λ told next. omega arith)
      (λ next. omega (arith, never_more budget next))

  -- RESUMED. A run that used its budget of a, resumed with b more, is the run with a + b, and the counts add
  pub resumed : (a b : ℕ) (s : S) → (runs turn a s).end ≡ out_of_steps → runs turn (a + b) s ≡ counted a (runs turn b (runs turn a s).state)
  unfolding runs
  resumed zero b s e = ap (λ (k : ℕ). runs turn k s) (zero-add b) ∙ sym (counted_none (runs turn b s))
  resumed (suc a) b s e =
      ap (λ (k : ℕ). runs turn k s) (suc-add a b)
      ∙ by_turn (λ (r w : Ran A S). r.end ≡ out_of_steps → w ≡ counted (suc a) (runs turn b r.state)) (turn s)
      (λ next. runs turn a next) (λ next. runs turn (a + b) next)
      (λ told next e'. told_not_spent told e')
      (λ next e'. ap (counted 1) (resumed a b next e') ∙ counted_twice 1 a (runs turn b (runs turn a next).state) ∙ ap (λ (k : ℕ). counted k (runs turn b (runs turn a next).state)) (one-add a)) e

  -- a budget beyond what was needed changes nothing
  pub enough : (a b : ℕ) (s : S) (told : Told A) → (runs turn a s).end ≡ tells told → runs turn (a + b) s ≡ runs turn a s
  unfolding runs
  enough zero b s told e = told_not_spent told (sym e)
  enough (suc a) b s told e =
      ap (λ (k : ℕ). runs turn k s) (suc-add a b)
      ∙ by_turn (λ (r w : Ran A S). r.end ≡ tells told → w ≡ r) (turn s) (λ next. runs turn a next) (λ next. runs turn (a + b) next)
      (λ told' next e'. refl)
      (λ next e'. ap (counted 1) (enough a b next told e')) e

  exact_turn : (budget : ℕ) (s : S) (t : Turned A S) (told : Told A) → turn s ≡ t
      → ((next : S) → (runs turn budget next).end ≡ tells told → runs turn (runs turn budget next).steps next ≡ runs turn budget next)
      → (follow t (λ next. runs turn budget next)).end ≡ tells told
      → runs turn (follow t (λ next. runs turn budget next)).steps s ≡ follow t (λ next. runs turn budget next)
  unfolding runs follow
  exact_turn budget s (ends told' next) told e ih end = rw e
  exact_turn budget s (goes next) told e ih end =
      ap (λ (k : ℕ). runs turn k s) (one-add (runs turn budget next).steps) ∙ rw e (ap (counted 1) (ih next end))

  -- a budget of exactly the steps needed is enough
  pub exactly : (budget : ℕ) (s : S) (told : Told A) → (runs turn budget s).end ≡ tells told → runs turn (runs turn budget s).steps s ≡ runs turn budget s
  unfolding runs
  exactly zero s told e = told_not_spent told (sym e)
  exactly (suc budget) s told e = exact_turn budget s (turn s) told refl (λ next. exactly budget next told) e
