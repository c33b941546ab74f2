-- Laws on lists that the library lacks.
use Prim.Native.Nat.{ℕ, suc, ◌<◌, min}
use mathlib.Core.Path.{◌≡◌, ap, sym, ◌∙◌}
use mathlib.Core.List.{List, [], ◌∷◌, ◌++◌, append_assoc}
use native.Mathlib.Numerals.{add-one}
use lib.ListN.{length, take, drop, get_or, set, length-append, length-take, take-append-drop}
use lib.Seq.{drop-cons, set-append_seam, take-append_seam}
use Rattle.promise.specs.Bytes.{front}

-- a byte stored behind those at the front
pub stored : (bs old : List ℕ) (v : ℕ) → length bs < length old → set (front bs old) (length bs) v ≡ front (bs ++ (v ∷ [])) old
stored bs old v h =
    ap (λ (l : List ℕ). set (bs ++ l) (length bs) v) (drop-cons old (length bs) 0 h)
    ∙ set-append_seam bs (get_or old (length bs) 0) (drop (suc (length bs)) old) v
    ∙ sym (append_assoc bs (v ∷ []) (drop (suc (length bs)) old))
    ∙ ap (λ (n : ℕ). (bs ++ (v ∷ [])) ++ drop n old) (sym (length-append bs (v ∷ []) ∙ add-one (length bs)))

pub take_min : (k : ℕ) (l : List ℕ) → take (min k (length l)) l ≡ take k l
take_min k l =
    ap (λ (n : ℕ). take n l) (sym (length-take k l))
    ∙ ap (take (length (take k l))) (sym (take-append-drop k l))
    ∙ take-append_seam (take k l) (drop k l)
