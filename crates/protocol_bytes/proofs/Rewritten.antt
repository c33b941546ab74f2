-- A field's bytes are what the number that they stand for is written as, in either order.
use Prim.Native.Nat.{ℕ, zero, suc, ◌+◌, ◌<◌, ◌≤◌}
use mathlib.Core.Path.{◌≡◌, ap, sym, ◌∙◌}
use mathlib.Core.List.{List, [], ◌∷◌, reverse, reverse_aux, reverse-reverse}
use native.Mathlib.Omega.{arith}
use lib.ListN.{length, take, drop, length-take, length-drop, length-reverse}
use lib.Seq.{get_or-drop}
use Rattle.promise.specs.Bytes.{low_first, high_first, from_low, from_high, field, AreBytes}
use Rattle.promise.proofs.Order.{low_first_from}

are_cons : (b : ℕ) (bytes : List ℕ) → b < 256 → AreBytes bytes → AreBytes (b ∷ bytes)
are_cons b bytes hb h zero = hb
are_cons b bytes hb h (suc i) = h i

are_none : AreBytes []
are_none i = omega arith

are_take : (n : ℕ) (bytes : List ℕ) → AreBytes bytes → AreBytes (take n bytes)
are_take zero bytes h = are_none
are_take (suc n) [] h = are_none
are_take (suc n) (b ∷ bytes) h = are_cons b (take n bytes) (h 0) (are_take n bytes (λ i. h (suc i)))

are_reversed : (bytes behind : List ℕ) → AreBytes bytes → AreBytes behind → AreBytes (reverse_aux bytes behind)
are_reversed [] behind h hb = hb
are_reversed (b ∷ bytes) behind h hb = are_reversed bytes (b ∷ behind) (λ i. h (suc i)) (are_cons b behind (h 0) hb)

are_field : (n at : ℕ) (bytes : List ℕ) → AreBytes bytes → AreBytes (field at n bytes)
are_field n at bytes h = are_take n (drop at bytes) (λ i. rw (get_or-drop at bytes i 0) (h (at + i)))

module _ (n at : ℕ) (bytes : List ℕ) (h : AreBytes bytes) (enough : at + n ≤ length bytes) where
  field_long : length (field at n bytes) ≡ n
  field_long = simp (length-take, length-drop) (omega arith)

  pub low_rewritten : low_first n (from_low (field at n bytes)) ≡ field at n bytes
  low_rewritten =
      ap (λ (k : ℕ). low_first k (from_low (field at n bytes))) (sym field_long) ∙ low_first_from (field at n bytes) (are_field n at bytes h)

  pub high_rewritten : high_first n (from_high (field at n bytes)) ≡ field at n bytes
  unfolding high_first from_high
  high_rewritten =
      ap reverse
      (ap (λ (k : ℕ). low_first k (from_low (reverse (field at n bytes)))) (sym (length-reverse (field at n bytes) ∙ field_long))
      ∙ low_first_from (reverse (field at n bytes)) (are_reversed (field at n bytes) [] (are_field n at bytes h) are_none))
      ∙ reverse-reverse (field at n bytes)
