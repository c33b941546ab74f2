-- Laws on lists that the library lacks.
use Prim.Native.Nat.{ℕ, zero, suc, ◌+◌, ◌-◌, ◌≤◌, min}
use mathlib.Core.Path.{◌≡◌, ap, sym, ◌∙◌}
use mathlib.Core.List.{List, [], ◌∷◌, ◌++◌, append-nil}
use native.Mathlib.Nat.{zero-min, min-zero, suc-min-suc}
use native.Mathlib.Omega.{arith}
use lib.ListN.{length, take, drop, length-append, length-take, length-drop, drop_of_length-le}
use lib.Seq.{take-append_seam}
use Rattle.promise.specs.Bytes.{front}
use Rattle.maskrom_transfer.proofs.Lists.{take_min}

pub take_front : (bs old : List ℕ) → take (length bs) (front bs old) ≡ bs
take_front bs old = take-append_seam bs (drop (length bs) old)

pub drop_min : (k : ℕ) (l : List ℕ) → drop (min k (length l)) l ≡ drop k l
drop_min zero l = rw zero-min
drop_min (suc k) [] = rw min-zero
drop_min (suc k) (x ∷ l) = rw suc-min-suc (drop_min k l)

-- k bytes of a list from `at` on, whatever there is of them
pub part_of : (k at : ℕ) (l : List ℕ) → take (min k (length l - min at (length l))) (drop (min at (length l)) l) ≡ take k (drop at l)
part_of k at l =
    ap (λ (n : ℕ). take (min k n) (drop (min at (length l)) l)) (sym (length-drop (min at (length l)) l))
    ∙ take_min k (drop (min at (length l)) l)
    ∙ ap (take k) (drop_min at l)

-- a block that the bytes taken have filled
module _ (b : List ℕ) (at : ℕ) (ys : List ℕ) (hb : length b ≡ 4096) (e : at + length ys ≡ 4096) where
  pub filled_length : length (take at b ++ ys) ≡ 4096
  filled_length = simp (length-append, length-take) (omega arith)

  pub filled_block : take at b ++ (ys ++ drop (at + length ys) b) ≡ take at b ++ ys
  filled_block =
      let h : length b ≤ 4096 = omega arith in
      rw (e, drop_of_length-le b h, append-nil)
