-- The blocks of an input: one after the other, and those of whole blocks with what follows them.
use Prim.Native.Nat.{ℕ, zero, suc, ◌+◌, ◌*◌, ◌%◌, ◌≤◌, ◌<◌}
use mathlib.Core.Path.{◌≡◌, refl, ap, ap₂, ◌∙◌}
use mathlib.Core.List.{List, [], ◌∷◌, ◌++◌}
use native.Mathlib.Omega.{arith}
use lib.ListN.{length, take, drop, length-append, length-drop}
use lib.Seq.{take_all, take-append-le, drop-append-le, drop-drop}
use Rattle.deck_block.specs.Block.{block_length}
use Rattle.deck_block.specs.Blocks.{begun, cut, blocks_of, joined, block_at, Whole}

no_bytes : (a : List ℕ) → length a ≡ 0 → a ≡ []
no_bytes [] e = refl
no_bytes (x ∷ a) e = absurd (omega arith)

-- k whole blocks and what follows them
cut_append : (k m : ℕ) (a b : List ℕ) → length a ≡ k * block_length → cut (k + m) (a ++ b) ≡ cut k a ++ cut m b
unfolding cut
cut_append zero m a b e =
    let none : length a ≡ 0 = omega arith in
    let z : 0 + m ≡ m = omega arith in
    ap (λ (l : List ℕ). cut (0 + m) (l ++ b)) (no_bytes a none) ∙ ap (λ (n : ℕ). cut n b) z
cut_append (suc k) m a b e =
    let long : block_length ≤ length a = omega arith in
    let rest : length (drop block_length a) ≡ k * block_length = simp length-drop (omega arith) in
    let one : suc k + m ≡ suc (k + m) = omega arith in
    ap (λ (n : ℕ). cut n (a ++ b)) one
    ∙ ap₂ (λ (block : List ℕ) (l : List ℕ). block ∷ cut (k + m) l) (take-append-le block_length a b long) (drop-append-le block_length a b long)
    ∙ ap (λ (bs : List (List ℕ)). take block_length a ∷ bs) (cut_append k m (drop block_length a) b rest)

pub blocks_append : (a b : List ℕ) → length a % block_length ≡ 0 → blocks_of (a ++ b) ≡ blocks_of a ++ blocks_of b
blocks_append a b whole =
    let long : length a ≡ begun (length a) * block_length = omega arith in
    let n : begun (length (a ++ b)) ≡ begun (length a) + begun (length b) = simp length-append (omega arith) in
    ap (λ (k : ℕ). cut k (a ++ b)) n ∙ cut_append (begun (length a)) (begun (length b)) a b long

-- what is left of an input begins with the next block
pub blocks_next : (from : ℕ) (input : List ℕ) → from < length input
    → blocks_of (drop from input) ≡ block_at from input ∷ blocks_of (drop (from + block_length) input)
unfolding cut
blocks_next from input more =
    let left : begun (length (drop from input)) ≡ suc (begun (length (drop (from + block_length) input))) = simp length-drop (omega arith) in
    ap (λ (n : ℕ). cut n (drop from input)) left
    ∙ ap (λ (l : List ℕ). block_at from input ∷ cut (begun (length (drop (from + block_length) input))) l) (drop-drop block_length from input)

-- and behind its end there is none
pub no_blocks : (input : List ℕ) → length input ≡ 0 → blocks_of input ≡ []
unfolding cut
no_blocks input e = ap blocks_of (no_bytes input e)

-- whole blocks, joined, are the blocks of what they make
pub one_block : (block : List ℕ) → length block ≡ block_length → blocks_of block ≡ block ∷ []
unfolding cut
one_block block long =
    let one : begun (length block) ≡ 1 = omega arith in
    ap (λ (n : ℕ). cut n block) one ∙ ap (λ (b : List ℕ). b ∷ []) (take_all block_length block (omega arith))

pub blocks_back : (blocks : List (List ℕ)) → Whole blocks → blocks_of (joined blocks) ≡ blocks
unfolding joined cut
blocks_back [] whole = refl
blocks_back (block ∷ blocks) whole =
    let even : length block % block_length ≡ 0 = let e = whole.0 in omega arith in
    blocks_append block (joined blocks) even ∙ ap₂ (λ (xs ys : List (List ℕ)). xs ++ ys) (one_block block whole.0) (blocks_back blocks whole.1)

pub whole_append : (xs ys : List (List ℕ)) → Whole xs → Whole ys → Whole (xs ++ ys)
whole_append [] ys a b = b
whole_append (x ∷ xs) ys a b = (a.0, whole_append xs ys a.1 b)

pub whole_apart : (xs ys : List (List ℕ)) → Whole (xs ++ ys) → Whole xs × Whole ys
whole_apart [] ys a = (tt, a)
whole_apart (x ∷ xs) ys a = let rest = whole_apart xs ys a.1 in ((a.0, rest.0), rest.1)
