-- A storage word is accepted exactly if it is a power of two, and the exponent is the index.
use Prim.Native.Nat.{ℕ, zero, suc, ◌+◌, ◌*◌, ◌/◌, ◌%◌, ◌^◌, ◌<◌}
use mathlib.Core.Path.{◌≡◌, refl, ap, ◌∙◌}
use mathlib.Core.Logic.{⊎_elim}
use mathlib.Core.List.{List, [], ◌∷◌}
use native.Mathlib.Nat.{add-zero, zero-add, mul-zero, mul-suc, mul_assoc, one-mul, pow-suc}
use native.Mathlib.Omega.{arith}
use Rattle.promise.specs.Told.{given}
use Rattle.promise.specs.Bytes.{from_low}
use Rattle.protocol_codes.specs.Reading.{storage_of}
use Rattle.protocol_codes.specs.declared.StorageIndex.{StorageIndex}
use Rattle.protocol_reply.specs.Media.{places_set, only_place, read_storage}
use Rattle.protocol_reply.proofs.Places.{low_digit, half_lt}

no_bit : (k q : ℕ) → places_set k q 0 ≡ []
unfolding places_set
no_bit zero q = refl
no_bit (suc k) q = no_bit k (suc q)

power_place : (k q p : ℕ) → p < k → places_set k q (2 ^ p) ≡ (q + p) ∷ []
unfolding places_set
power_place zero q p h = absurd (omega arith)
power_place (suc k) q zero h = rw (no_bit k (suc q), add-zero) refl
power_place (suc k) q (suc p) h =
    let even : 2 ^ suc p % 2 ≡ 0 = rw pow-suc (omega arith) in
    let half : 2 ^ suc p / 2 ≡ 2 ^ p = rw pow-suc (omega arith) in
    let below : p < k = omega arith in
    rw even (rw half (power_place k (suc q) p below ∙ ap (λ (n : ℕ). n ∷ []) (omega arith)))

-- the bit at place p alone: index p
pub accepts : (reply : List ℕ) (p : ℕ) → p < 32 → from_low reply ≡ 2 ^ p → read_storage reply ≡ given (storage_of p)
unfolding read_storage only_place
accepts reply p h e = rw (e, power_place 32 0 p h, zero-add) refl

-- what a word's places stand for
abbrev sum_of : List ℕ → ℕ
sum_of [] = 0
sum_of (p ∷ places) = 2 ^ p + sum_of places

word_of : (k q v : ℕ) → v < 2 ^ k → sum_of (places_set k q v) ≡ 2 ^ q * v
unfolding places_set
word_of zero q v h = let none : v ≡ 0 = omega arith in rw (none, mul-zero) refl
word_of (suc k) q v h =
    let later : sum_of (places_set k (suc q) (v / 2)) ≡ 2 ^ q * (2 * (v / 2)) =
    word_of k (suc q) (v / 2) (half_lt k v h) ∙ rw (pow-suc, mul_assoc) refl in
    ⊎_elim
    (λ even. let whole : 2 * (v / 2) ≡ v = omega arith in rw even (later ∙ ap (λ (n : ℕ). 2 ^ q * n) whole))
    (λ odd.
    let whole : suc (2 * (v / 2)) ≡ v = omega arith in
    rw odd (omega (arith, later, mul-suc (2 ^ q) (2 * (v / 2)), ap (λ (n : ℕ). 2 ^ q * n) whole)))
    (low_digit v)

only : (places : List ℕ) (v : ℕ) (index : StorageIndex) → sum_of places ≡ v → only_place places ≡ given index
    → (p : ℕ) × (v ≡ 2 ^ p) × (index ≡ storage_of p)
unfolding only_place
only [] v index e h = let z : ◌≡◌ {A = ℕ} 0 1 = cc in absurd (omega arith)
only (p ∷ []) v index e h = (p, omega arith, cc)
only (p ∷ q ∷ more) v index e h = let z : ◌≡◌ {A = ℕ} 0 1 = cc in absurd (omega arith)

pub accepted : (reply : List ℕ) (index : StorageIndex) → from_low reply < 2 ^ 32 → read_storage reply ≡ given index
    → (p : ℕ) × (from_low reply ≡ 2 ^ p) × (index ≡ storage_of p)
unfolding read_storage
accepted reply index small h = let word = word_of 32 0 (from_low reply) small in only (places_set 32 0 (from_low reply)) (from_low reply) index (word ∙ one-mul (from_low reply)) h
