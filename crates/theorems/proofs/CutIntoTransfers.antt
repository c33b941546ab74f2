-- Cutting bytes into transfers: how many, how long, and nothing lost.
use Prim.Native.Nat.{ℕ, zero, suc, ◌+◌, ◌/◌, ◌%◌, ◌<◌, ◌≤◌}
use mathlib.Core.Path.{◌≡◌, refl, ap}
use mathlib.Core.List.{List, [], ◌∷◌, ◌++◌, map, flatten, append-nil}
use native.Mathlib.Omega.{arith}
use lib.ListN.{length, take, drop, replicate, length-append, length-drop, take-append-drop}
use lib.Seq.{take_at, drop_at, take_all, length-take-le}
use Rattle.theorems.specs.UploadBytes.{pieces, cut}

pub cut_block : (b rest : List ℕ) → length b ≡ 4096 → cut (b ++ rest) ≡ b ∷ cut rest
unfolding cut pieces
cut_block b rest e =
    let n : length (b ++ rest) / 4096 + 1 ≡ suc (length rest / 4096 + 1) = simp length-append (omega arith) in
    rw (n, take_at b rest 4096 e, drop_at b rest 4096 e)

pub cut_short : (b : List ℕ) → length b < 4096 → cut b ≡ b ∷ []
unfolding cut pieces
cut_short b h =
    let n : length b / 4096 + 1 ≡ 1 = omega arith in
    rw (n, take_all 4096 b (omega arith))

-- by induction over the whole blocks
by_blocks : (P : List ℕ → Type 0) → ((b : List ℕ) → length b < 4096 → P b)
    → ((b rest : List ℕ) → length b ≡ 4096 → P rest → P (b ++ rest)) → (q : ℕ) (bs : List ℕ) → length bs / 4096 ≡ q → P bs
by_blocks P short more zero bs e = short bs (omega arith)
by_blocks P short more (suc q) bs e =
    let h : 4096 ≤ length bs = omega arith in
    let r : length (drop 4096 bs) / 4096 ≡ q = simp length-drop (omega arith) in
    rw (take-append-drop 4096 bs) at (more (take 4096 bs) (drop 4096 bs) (length-take-le 4096 bs h) (by_blocks P short more q (drop 4096 bs) r))

-- nothing is lost
pub cut_joins : (bs : List ℕ) → flatten (cut bs) ≡ bs
unfolding flatten
cut_joins bs =
    by_blocks (λ (l : List ℕ). flatten (cut l) ≡ l)
    (λ b h. rw (cut_short b h) (append-nil b))
    (λ b rest e ih. rw (cut_block b rest e) (ap (λ (l : List ℕ). b ++ l) ih))
    (length bs / 4096) bs refl

-- "floor(T/4,096)+1 transfers", each 4,096 long but the last
pub cut_sizes : (bs : List ℕ) → map length (cut bs) ≡ replicate (length bs / 4096) 4096 ++ (length bs % 4096 ∷ [])
cut_sizes bs =
    by_blocks (λ (l : List ℕ). map length (cut l) ≡ replicate (length l / 4096) 4096 ++ (length l % 4096 ∷ []))
    (λ b h. let q : length b / 4096 ≡ 0 = omega arith in let r : length b % 4096 ≡ length b = omega arith in rw (cut_short b h, q, r))
    (λ b rest e ih.
    let q : length (b ++ rest) / 4096 ≡ suc (length rest / 4096) = simp length-append (omega arith) in
    let r : length (b ++ rest) % 4096 ≡ length rest % 4096 = simp length-append (omega arith) in
    rw (cut_block b rest e, q, r, e) (ap (λ (l : List ℕ). 4096 ∷ l) ih))
    (length bs / 4096) bs refl

pieces_many : (k : ℕ) (bs : List ℕ) → length (pieces k bs) ≡ k
unfolding pieces
pieces_many zero bs = refl
pieces_many (suc k) bs = ap suc (pieces_many k (drop 4096 bs))

pub cut_many : (bs : List ℕ) → length (cut bs) ≡ length bs / 4096 + 1
unfolding cut
cut_many bs = pieces_many (length bs / 4096 + 1) bs
