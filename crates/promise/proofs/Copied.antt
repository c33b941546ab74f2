-- A copy into a part that was lent of a buffer puts the bytes over what stood there.
use Prim.Native.Nat.{ℕ, ◌+◌, ◌≤◌}
use mathlib.Core.Path.{◌≡◌, ap, sym, ◌∙◌}
use mathlib.Core.List.{List, ◌++◌, append_assoc}
use native.Mathlib.Omega.{arith}
use lib.ListN.{length, take, drop, length-take, length-drop, take-append-drop}
use lib.Seq.{take-length, drop-append-le, drop-drop}
use borrow.Rule.Slice.PartMut.{put_mid}
use Rattle.promise.specs.Bytes.{front}
use Rattle.promise.specs.Over.{over}

-- k bytes from place `at` were lent; `last` is what the copy left of them
pub copied : (at k : ℕ) (bytes before last : List ℕ) → at + length bytes ≤ length before → length bytes ≤ k
    → last ≡ take (length bytes) bytes ++ drop (length bytes) (take k (drop at before)) → put_mid at k before last ≡ over at bytes before
unfolding over
copied at k bytes before last inside fits e =
    let rest = drop at before in
    let n : length bytes ≤ length (take k rest) = simp (length-take, length-drop) (omega arith) in
    let back : drop (length bytes) (take k rest) ++ drop k rest ≡ drop (at + length bytes) before =
    sym (drop-append-le (length bytes) (take k rest) (drop k rest) n)
    ∙ ap (drop (length bytes)) (take-append-drop k rest)
    ∙ drop-drop (length bytes) at before in
    rw (e, take-length, append_assoc, back)

-- what is left of a part that was lent stands where the part stood
pub put_over : (at k : ℕ) (before last : List ℕ) → length last ≡ k → put_mid at k before last ≡ over at last before
unfolding over
put_over at k before last e = rw (← e) (ap (λ (l : List ℕ). take at before ++ (last ++ l)) (drop-drop (length last) at before))

-- a copy to the front of a buffer
pub copied_front : (bytes before last : List ℕ) → last ≡ take (length bytes) bytes ++ drop (length bytes) before → last ≡ front bytes before
copied_front bytes before last e = e ∙ ap (λ (l : List ℕ). l ++ drop (length bytes) before) (take-length bytes)
