-- How many calls an image takes in parts of one size, wherever in its block an upload stands; and that the numbers fit their types.
use Prim.Native.Nat.{ℕ, suc, ◌+◌, ◌-◌, ◌*◌, ◌/◌, ◌%◌, ◌<◌, ◌≤◌, min}
use mathlib.Core.Path.{◌≡◌, refl, ap, sym, ◌∙◌}
use mathlib.Core.Bool.{Bool, true, false}
use mathlib.Core.List.{[], ◌∷◌}
use native.Mathlib.Nat.{div-eq_of_lt, add-div_right, div-one, div-lt_iff_lt-mul, mul-le-mul_left, suc-mul, zero-mul, add-zero}
use native.Mathlib.Omega.{arith}
use native.Mathlib.Decide.{dec_lt}
use lib.Dec.{eqb, ltb}
use lib.ListN.{length}
use borrow.Author.Tests.{lt-ltb, le-ltb}
use Rattle.promise.specs.Rules.{pick}
use Rattle.maskrom.specs.Answers.{longest}
use Rattle.maskrom.specs.Made.{pad}
use Rattle.theorems.specs.UploadBytes.{last_zero, total}
use Rattle.theorems.specs.DriveTrace.{in_parts, calls_for, part_budget, whole_steps}

sub_twice : (a b c : ℕ) → a - (b + c) ≡ a - b - c
sub_twice a b c = omega arith

sub_under : (l r s : ℕ) → s < r → l - s - (r - s) ≡ l - r
sub_under l r s h = omega arith

le_under : (w l s : ℕ) → 4096 - w ≤ l → 4096 - (w + s) ≤ l - s
le_under w l s h = omega arith

one_more : (a b c : ℕ) → a ≡ b + 1 → a + c ≡ b + c + 1
one_more a b c e = omega arith

module _ (size : ℕ) (h : 0 < size) where
  -- none of nothing, one of no more than its size, and one more than of what is left behind the first
  none_in_parts : in_parts size 0 ≡ 0
  none_in_parts = div-eq_of_lt (omega arith)

  one_part : (n : ℕ) → 0 < n → n ≤ size → in_parts size n ≡ 1
  one_part n p l =
      let few : (n - 1) / size ≡ 0 = div-eq_of_lt (omega arith) in
      let same : n + (size - 1) ≡ n - 1 + size = omega arith in
      ap (λ (k : ℕ). k / size) same ∙ add-div_right (n - 1) h ∙ ap (λ (k : ℕ). k + 1) few

  next_part : (n : ℕ) → size < n → in_parts size n ≡ in_parts size (n - size) + 1
  next_part n l =
      let same : n + (size - 1) ≡ n - size + (size - 1) + size = omega arith in
      ap (λ (k : ℕ). k / size) same ∙ add-div_right (n - size + (size - 1)) h

  -- with `w` bytes waiting and l to come: the rest of the block, then what is behind it
  unfoldable pub calls_at : ℕ → ℕ → ℕ
  calls_at w l = pick (ltb l (4096 - w)) (in_parts size l) (in_parts size (4096 - w) + calls_for size (l - (4096 - w)))

  calls_few : (w l : ℕ) → l < 4096 - w → calls_at w l ≡ in_parts size l
  unfolding calls_at
  calls_few w l f = rw (lt-ltb l (4096 - w) f)

  calls_many : (w l : ℕ) → 4096 - w ≤ l → calls_at w l ≡ in_parts size (4096 - w) + calls_for size (l - (4096 - w))
  unfolding calls_at
  calls_many w l f = rw (le-ltb l (4096 - w) f)

  pub calls_none : (w : ℕ) → w < 4096 → calls_at w 0 ≡ 0
  calls_none w f = calls_few w 0 (omega arith) ∙ none_in_parts

  -- at the start of a block it is what the image takes from its start
  start_by : (l : ℕ) → Dec (l < 4096) → calls_at 0 l ≡ calls_for size l
  unfolding calls_for
  start_by l (yes f) =
      let q : l / 4096 ≡ 0 = omega arith in
      let r : l % 4096 ≡ l = omega arith in
      calls_few 0 l (omega arith) ∙ sym (rw (q, r) (omega (arith, zero-mul (in_parts size 4096))))
  start_by l (no f) =
      let c = in_parts size 4096 in
      let q : l / 4096 ≡ suc ((l - 4096) / 4096) = omega arith in
      let r : l % 4096 ≡ (l - 4096) % 4096 = omega arith in
      calls_many 0 l (omega arith)
      ∙ sym (rw (q, r) (omega (arith, suc-mul ((l - 4096) / 4096) c)))

  pub calls_at_start : (l : ℕ) → calls_at 0 l ≡ calls_for size l
  calls_at_start l = start_by l (dec_lt l 4096)

  -- one call, which takes what it is handed of what the block has room for
  next_by : (w l t : ℕ) → Dec (l < 4096 - w) → Dec (size < l) → Dec (size < 4096 - w) → w < 4096 → 0 < l → t ≡ min (4096 - w) (min size l)
      → calls_at w l ≡ calls_at ((w + t) % 4096) (l - t) + 1
  next_by w l t (yes f) (yes g) d b p e =
      let is : t ≡ size = omega arith in
      let at : (w + t) % 4096 ≡ w + size = omega arith in
      calls_few w l f ∙ next_part l g
      ∙ sym (rw (at, is) (ap (λ (k : ℕ). k + 1) (calls_few (w + size) (l - size) (omega arith))))
  next_by w l t (yes f) (no g) d b p e =
      let is : l - t ≡ 0 = omega arith in
      calls_few w l f ∙ one_part l p (omega arith) ∙ sym (rw is (ap (λ (k : ℕ). k + 1) (calls_none ((w + t) % 4096) (omega arith))))
  next_by w l t (no f) d (yes g) b p e =
      let many : 4096 - w ≤ l = omega arith in
      let is : t ≡ size = omega arith in
      let at : (w + t) % 4096 ≡ w + size = omega arith in
      let room = sub_twice 4096 w size in
      let behind = sub_under l (4096 - w) size (omega arith) in
      let there : calls_at (w + size) (l - size) ≡ in_parts size (4096 - w - size) + calls_for size (l - (4096 - w)) =
      calls_many (w + size) (l - size) (le_under w l size many) ∙ rw (room, behind) refl in
      let here = next_part (4096 - w) g in
      calls_many w l many ∙ one_more (in_parts size (4096 - w)) (in_parts size (4096 - w - size)) (calls_for size (l - (4096 - w))) here ∙ sym (rw (at, is, there) refl)
  next_by w l t (no f) d (no g) b p e =
      let is : t ≡ 4096 - w = omega arith in
      let at : (w + t) % 4096 ≡ 0 = omega arith in
      let here = one_part (4096 - w) (omega arith) (omega arith) in
      calls_many w l (omega arith) ∙ sym (rw (at, is, calls_at_start (l - (4096 - w))) (omega (arith, here)))

  pub calls_next : (w l t : ℕ) → w < 4096 → 0 < l → t ≡ min (4096 - w) (min size l) → calls_at w l ≡ calls_at ((w + t) % 4096) (l - t) + 1
  calls_next w l t b p e = next_by w l t (dec_lt l (4096 - w)) (dec_lt size l) (dec_lt size (4096 - w)) b p e

few_by : (n : ℕ) (b c : Bool) → n + (length {A = ℕ} (pick b (0 ∷ []) []) + (2 + length {A = ℕ} (pick c (0 ∷ []) []))) ≤ n + 4
few_by n true true = omega arith
few_by n true false = omega arith
few_by n false true = omega arith
few_by n false false = omega arith

-- at most four bytes are behind an image
few_behind : (n : ℕ) → total n ≤ n + 4
unfolding total pad last_zero
few_behind n = few_by n (eqb (n % 4096) 4095) (eqb (n % 4096) 4094)

-- the budgets fit their types: a whole upload's a u32 ..
pub whole_steps_fit : (n : ℕ) → n ≤ longest → whole_steps n < 4294967296
whole_steps_fit n l = omega (arith, few_behind n)

two_each : (size n : ℕ) → 2 ≤ size → n ≤ 4096 → in_parts size n < 2049
two_each size n h l = (div-lt_iff_lt-mul {k = size} {x = n + (size - 1)} {y = 2049} (omega arith)).1 (omega arith)

by_bytes : (n : ℕ) → calls_for 1 n ≡ n
unfolding calls_for
by_bytes n =
    let last : (n % 4096 + 0) / 1 ≡ n % 4096 = div-one (n % 4096 + 0) ∙ add-zero (n % 4096) in
    omega (arith, last)

budget_by : (size n : ℕ) → 1 ≤ size → n ≤ longest → Dec (1 < size) → part_budget size n ≤ 4294967296
unfolding calls_for
budget_by size n some l (yes h) =
    let each = two_each size 4096 h (omega arith) in
    let last = two_each size (n % 4096) h (omega arith) in
    let most : n / 4096 * in_parts size 4096 ≤ n / 4096 * 2048 = mul-le-mul_left (n / 4096) (omega arith) in
    omega arith
budget_by size n some l (no h) =
    let one : size ≡ 1 = omega arith in
    omega (arith, by_bytes n, ap (λ (k : ℕ). calls_for k n) one)

-- .. and that of parts a u64, since it is 2^32 at most ..
pub part_budget_fits : (size n : ℕ) → 1 ≤ size → n ≤ longest → part_budget size n < 18446744073709551616
part_budget_fits size n some l = let most = budget_by size n some l (dec_lt 1 size) in omega arith

-- .. which it is for the longest image byte by byte
pub longest_by_bytes : part_budget 1 longest ≡ 4294967296
longest_by_bytes = ap (λ (k : ℕ). k + 1) (by_bytes longest)
