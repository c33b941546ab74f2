-- The first place that passes a test, also after one element was changed.
use Prim.Native.Nat.{ℕ, zero, suc, ◌≤◌, ◌<◌}
use mathlib.Core.Path.{◌≡◌, refl, ap, sym, ◌∙◌}
use mathlib.Core.Bool.{Bool, true, false}
use mathlib.Core.List.{List, [], ◌∷◌}
use native.Mathlib.Omega.{arith}
use lib.Dec.{ltb}
use lib.ListN.{length, get_or, set}
use borrow.Author.Tests.{ltb-true, ltb-false}
use Rattle.promise.specs.Rules.{pick}
use Rattle.promise.proofs.Outcome.{by_test, on_test}
use Rattle.mock_areas.specs.Slots.{slot_count, first_at, among_slots}
use Rattle.std.specs.Prelude.{position}
use Rattle.std.specs.List.{position_or_len}

module _ {A : Type 0} (test : A → Bool) (d : A) where
  -- what is found passes
  pub found_passes : (xs : List A) → first_at test xs < length xs → test (get_or xs (first_at test xs) d) ≡ true
  unfolding first_at
  found_passes [] h = absurd (omega arith)
  found_passes (x ∷ xs) h =
      by_test (λ (n : ℕ). n < length (x ∷ xs) → test (get_or (x ∷ xs) n d) ≡ true) (test x) (λ e k. e)
      (λ e k. found_passes xs (omega arith)) h

  -- an element that passes, put before or at the first that did, is the first
  pub first_set : (xs : List A) (i : ℕ) (a : A) → i < length xs → i ≤ first_at test xs → test a ≡ true → first_at test (set xs i a) ≡ i
  unfolding first_at
  first_set [] i a h f e = absurd (omega arith)
  first_set (x ∷ xs) zero a h f e = rw e
  first_set (x ∷ xs) (suc i) a h f e =
      on_test (test x) (λ t. let z : suc i ≤ 0 = rw t at f in absurd (omega arith))
      (λ t. let k : suc i ≤ suc (first_at test xs) = rw t at f in rw t (ap suc (first_set xs i a (omega arith) (omega arith) e)))

  -- one that fails, put for one that failed, is passed over
  pub first_kept : (xs : List A) (i : ℕ) (a : A) → test (get_or xs i d) ≡ false → test a ≡ false → first_at test (set xs i a) ≡ first_at test xs
  unfolding first_at
  first_kept [] i a h e = refl
  first_kept (x ∷ xs) zero a h e = rw (h, e)
  first_kept (x ∷ xs) (suc i) a h e = ap (λ (n : ℕ). pick (test x) zero (suc n)) (first_kept xs i a h e)

  -- before what is found none passes
  pub before_fails : (xs : List A) (i : ℕ) → i < first_at test xs → test (get_or xs i d) ≡ false
  unfolding first_at
  before_fails [] i h = absurd (omega arith)
  before_fails (x ∷ xs) zero h = on_test (test x) (λ t. let z : 0 < 0 = rw t at h in absurd (omega arith)) (λ t. t)
  before_fails (x ∷ xs) (suc i) h =
      on_test (test x) (λ t. let z : suc i < 0 = rw t at h in absurd (omega arith))
      (λ t. let k : suc i < suc (first_at test xs) = rw t at h in before_fails xs i (omega arith))

  -- where all before place k fail it is not found before, and where k passes not behind
  pub not_before : (xs : List A) (k : ℕ) → k ≤ length xs → ((i : ℕ) → i < k → test (get_or xs i d) ≡ false) → k ≤ first_at test xs
  not_before xs k long fails =
      on_test (ltb (first_at test xs) k)
      (λ t. let l = ltb-true (first_at test xs) k t in
      let z : true ≡ false = sym (found_passes xs (omega arith)) ∙ fails (first_at test xs) l in
      let n : ◌≡◌ {A = ℕ} 0 1 = cc in absurd (omega arith))
      (λ t. ltb-false (first_at test xs) k t)

  pub not_behind : (xs : List A) (k : ℕ) → test (get_or xs k d) ≡ true → first_at test xs ≤ k
  not_behind xs k passes =
      on_test (ltb k (first_at test xs))
      (λ t. let z : true ≡ false = sym passes ∙ before_fails xs k (ltb-true k (first_at test xs) t) in
      let n : ◌≡◌ {A = ℕ} 0 1 = cc in absurd (omega arith))
      (λ t. ltb-false k (first_at test xs) t)

-- the search by std's words
searched : {A : Type 0} (test : A → Bool) (xs : List A) → position_or_len test xs ≡ first_at test xs
unfolding first_at
searched test [] = refl
searched test (x ∷ xs) = on_test (test x) (λ t. rw t refl) (λ t. rw (t, searched test xs) (omega arith))

pub found_among : {A : Type 0} (test : A → Bool) (xs : List A) → length xs ≡ slot_count → position test xs ≡ among_slots (first_at test xs)
unfolding among_slots
found_among test xs eight =
    rw (searched test xs, eight) (on_test (ltb (first_at test xs) slot_count) (λ t. rw t refl) (λ t. rw t refl))
