-- Bytes put behind others.
use Prim.Native.Nat.{ℕ, ◌+◌}
use mathlib.Core.Path.{◌≡◌, refl, ap, sym, ◌∙◌}
use mathlib.Core.List.{List, ◌++◌, append_assoc}
use lib.ListN.{length, take, drop, length-append}
use lib.Seq.{drop-drop, take_at, drop_at}
use Rattle.promise.specs.Bytes.{front}

-- 24 bytes at the front, then the 7 behind them: 31 bytes at the front
pub front_tail : (c tail before : List ℕ) → length c ≡ 24 → length tail ≡ 7
    → take 24 (front c before) ++ (tail ++ drop 31 (front c before)) ≡ front (c ++ tail) before
front_tail c tail before hc ht =
    let kept = front c before in
    let first : take 24 kept ≡ c = take_at c (drop (length c) before) 24 hc in
    let rest : drop 31 kept ≡ drop (length c + 7) before =
    sym (drop-drop 7 24 kept) ∙ ap (drop 7) (drop_at c (drop (length c) before) 24 hc) ∙ drop-drop 7 (length c) before in
    rw (first, rest, append_assoc c tail, length-append c tail, ht) refl
