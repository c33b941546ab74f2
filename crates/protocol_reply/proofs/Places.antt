-- A word with one bit set has it at the place that its trailing zeros count, and any other number of ones is as many places.
use Prim.Native.Nat.{ℕ, zero, suc, ◌+◌, ◌/◌, ◌%◌, ◌^◌, ◌<◌}
use mathlib.Core.Path.{◌≡◌, refl, ap, sym, ◌∙◌}
use mathlib.Core.Logic.{◌⊎◌, inl, inr, ⊎_elim}
use mathlib.Core.List.{List, [], ◌∷◌}
use native.Mathlib.Nat.{add-zero, div-lt_iff_lt-mul, pow-suc}
use native.Mathlib.Omega.{arith}
use lib.Dec.{lit<}
use lib.ListN.{length}
use lib.Count.{ones, ones_step, count_trailing_zeros}
use Rattle.promise.specs.Told.{refused}
use Rattle.protocol_reply.specs.Media.{reply_parse_failure, places_set, only_place}

digit : (d : ℕ) → d < 2 → (d ≡ 0) ⊎ (d ≡ 1)
digit zero h = inl refl
digit (suc zero) h = inr refl
digit (suc (suc d)) h = absurd (omega arith)

pub low_digit : (v : ℕ) → (v % 2 ≡ 0) ⊎ (v % 2 ≡ 1)
low_digit v = digit (v % 2) (omega arith)

pub half_lt : (k v : ℕ) → v < 2 ^ suc k → v / 2 < 2 ^ k
half_lt k v h = (div-lt_iff_lt-mul (lit< tt)).1 (rw pow-suc at h)

-- as many places as ones
pub places_count : (k p v : ℕ) → v < 2 ^ k → length (places_set k p v) ≡ ones v
unfolding places_set ones
places_count zero p v h = let none : v ≡ 0 = omega arith in sym (ap ones none)
places_count (suc k) p v h =
    let later : length (places_set k (suc p) (v / 2)) ≡ ones (v / 2) = places_count k (suc p) (v / 2) (half_lt k v h) in
    ⊎_elim (λ even. rw even (omega (arith, ones_step v))) (λ odd. rw odd (omega (arith, ones_step v))) (low_digit v)

no_places : (l : List ℕ) → length l ≡ 0 → l ≡ []
no_places [] h = refl
no_places (a ∷ l) h = absurd (omega arith)

pub one_place : (k p v : ℕ) → v < 2 ^ k → ones v ≡ 1 → places_set k p v ≡ (p + count_trailing_zeros k v) ∷ []
unfolding places_set count_trailing_zeros ones
one_place zero p v h e = let none : v ≡ 0 = omega arith in absurd (omega (arith, ap ones none))
one_place (suc k) p v h e =
    let below : v / 2 < 2 ^ k = half_lt k v h in
    ⊎_elim
    (λ even.
    let one : ones (v / 2) ≡ 1 = omega (arith, ones_step v) in
    rw even (one_place k (suc p) (v / 2) below one ∙ ap (λ (n : ℕ). n ∷ []) (omega arith)))
    (λ odd.
    let none : length (places_set k (suc p) (v / 2)) ≡ 0 = omega (arith, places_count k (suc p) (v / 2) below, ones_step v) in
    rw (no_places (places_set k (suc p) (v / 2)) none) (rw odd (ap (λ (n : ℕ). n ∷ []) (sym (add-zero p)))))
    (low_digit v)

-- any number of places but one is refused
pub not_one : (l : List ℕ) → (length l ≡ 1 → ⊥) → only_place l ≡ refused reply_parse_failure []
unfolding only_place
not_one [] h = refl
not_one (p ∷ []) h = absurd (h refl)
not_one (p ∷ q ∷ more) h = refl
