-- A part that lies inside is read back as what was put there, and every part beside it as it was.
use Prim.Native.Nat.{ℕ, zero, suc, ◌+◌, ◌-◌, ◌≤◌}
use mathlib.Core.Path.{◌≡◌, refl, ap, sym, ◌∙◌}
use mathlib.Core.List.{List, [], ◌∷◌, ◌++◌}
use native.Mathlib.Nat.{add-zero}
use native.Mathlib.Omega.{arith}
use lib.ListN.{length, take, drop, length-append, length-take, length-drop, take-append-drop}
use lib.Seq.{take_at, drop_at, drop-drop, take-take, take-add, length-take-le}
use Rattle.promise.specs.Bytes.{field}
use Rattle.promise.specs.Over.{over}

-- nothing put anywhere is no change
pub over_nothing : (at : ℕ) (before : List ℕ) → over at [] before ≡ before
unfolding over
over_nothing at before = simp add-zero (take-append-drop at before)

-- a part that ends by place `at` is a part of what stands before it
field_in_take : (a n at : ℕ) (whole : List ℕ) → a + n ≤ at → field a n whole ≡ field a n (take at whole)
field_in_take zero n at whole h = let k : n ≤ at = omega arith in sym (take-take n at whole k)
field_in_take (suc a) n zero whole h = absurd (omega arith)
field_in_take (suc a) n (suc at) [] h = refl
field_in_take (suc a) n (suc at) (x ∷ whole) h = field_in_take a n at whole (omega arith)

module _ (at : ℕ) (bytes before : List ℕ) (inside : at + length bytes ≤ length before) where
  pub length_over : length (over at bytes before) ≡ length before
  unfolding over
  length_over = simp (length-append, length-take, length-drop) (omega arith)

  -- all up to the part, and all behind it, is as it was
  pub take_over : take at (over at bytes before) ≡ take at before
  unfolding over
  take_over = take_at (take at before) (bytes ++ drop (at + length bytes) before) at (length-take-le at before (omega arith))

  pub drop_over : drop (at + length bytes) (over at bytes before) ≡ drop (at + length bytes) before
  unfolding over
  drop_over =
      sym (drop-drop (length bytes) at (take at before ++ (bytes ++ drop (at + length bytes) before)))
      ∙ ap (drop (length bytes)) (drop_at (take at before) (bytes ++ drop (at + length bytes) before) at (length-take-le at before (omega arith)))
      ∙ drop_at bytes (drop (at + length bytes) before) (length bytes) refl

  -- a part before, a part behind, and the part itself
  pub field_before : (a n : ℕ) → a + n ≤ at → field a n (over at bytes before) ≡ field a n before
  field_before a n h =
      field_in_take a n at (over at bytes before) h ∙ ap (field a n) take_over ∙ sym (field_in_take a n at before h)

  pub field_behind : (a n : ℕ) → at + length bytes ≤ a → field a n (over at bytes before) ≡ field a n before
  field_behind a n h =
      let e : at + length bytes + (a - (at + length bytes)) ≡ a = omega arith in
      ap (take n)
      (ap (λ (k : ℕ). drop k (over at bytes before)) (sym e)
      ∙ sym (drop-drop (a - (at + length bytes)) (at + length bytes) (over at bytes before))
      ∙ ap (drop (a - (at + length bytes))) drop_over
      ∙ drop-drop (a - (at + length bytes)) (at + length bytes) before
      ∙ ap (λ (k : ℕ). drop k before) e)

  pub field_same : field at (length bytes) (over at bytes before) ≡ bytes
  unfolding over
  field_same =
      ap (take (length bytes)) (drop_at (take at before) (bytes ++ drop (at + length bytes) before) at (length-take-le at before (omega arith)))
      ∙ take_at bytes (drop (at + length bytes) before) (length bytes) refl

-- bytes put behind the first `used` of a part make it that much longer
pub field_grows : (base used : ℕ) (bytes before : List ℕ) → base + used + length bytes ≤ length before
    → field base (used + length bytes) (over (base + used) bytes before) ≡ field base used before ++ bytes
field_grows base used bytes before inside =
    let after = over (base + used) bytes before in
    let kept : field base used after ≡ field base used before = field_before (base + used) bytes before inside base used (omega arith) in
    take-add used (length bytes) (drop base after)
    ∙ ap (λ (l : List ℕ). field base used after ++ take (length bytes) l) (drop-drop used base after)
    ∙ ap (λ (l : List ℕ). field base used after ++ l) (field_same (base + used) bytes before inside)
    ∙ ap (λ (l : List ℕ). l ++ bytes) kept
