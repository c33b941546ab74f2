-- An input cut into chunks of whole blocks: its lines are theirs, one after the other.
use Prim.Native.Nat.{ℕ, ◌+◌, ◌%◌}
use mathlib.Core.Path.{◌≡◌, refl, ap, ap₂, sym, ◌∙◌}
use mathlib.Core.Bool.{true}
use mathlib.Core.List.{List, [], ◌∷◌, ◌++◌, append-nil}
use native.Mathlib.Omega.{arith}
use lib.ListN.{length}
use Rattle.deck_block.specs.Block.{block_length}
use Rattle.deck_block.specs.Blocks.{cut, blocks_of}
use Rattle.deck_block.proofs.Blocks.{blocks_append}
use Rattle.deck_chunk.specs.Deck.{Table, Lines, lines, then_deal, deal_next, deal_blocks, deal_all}
use Rattle.deck_chunk.proofs.Laws.{nothing_first, regroup, over_stays}

-- the lines of some blocks and of more
pub deal_append : (xs ys : List (List ℕ)) (t : Table) → deal_blocks (xs ++ ys) t ≡ then_deal (deal_blocks xs t) (λ next. deal_blocks ys next)
unfolding deal_blocks
deal_append [] ys t = sym (nothing_first (λ next. deal_blocks ys next) t)
deal_append (block ∷ xs) ys t =
    ap (λ (l : Lines). lines ((deal_next block t).text ++ l.text) ((deal_next block t).blocks + l.blocks) l.leaves) (deal_append xs ys (deal_next block t).leaves)
    ∙ sym (regroup (deal_next block t) (λ next. deal_blocks xs next) (λ next. deal_blocks ys next))

pub chunk_then : (a b : List ℕ) (t : Table) → length a % block_length ≡ 0 → deal_all (a ++ b) t ≡ then_deal (deal_all a t) (λ next. deal_all b next)
chunk_then a b t whole = ap (λ (bs : List (List ℕ)). deal_blocks bs t) (blocks_append a b whole) ∙ deal_append (blocks_of a) (blocks_of b) t

-- no input: no lines
pub no_input : (t : Table) → deal_all [] t ≡ lines [] 0 t
unfolding deal_blocks cut
no_input t = refl

nothing_last : (l : Lines) → l ≡ then_deal l (λ next. lines [] 0 next)
nothing_last l =
    let z : l.blocks ≡ l.blocks + 0 = omega arith in
    ap₂ (λ (t : List ℕ) (b : ℕ). lines t b l.leaves) (sym (append-nil l.text)) z

pub chunk_alone : (a : List ℕ) (t : Table) → deal_all (a ++ []) t ≡ then_deal (deal_all a t) (λ next. deal_all [] next)
unfolding deal_blocks cut
chunk_alone a t = ap (λ (l : List ℕ). deal_all l t) (append-nil a) ∙ nothing_last (deal_all a t)

-- nothing is dealt behind a block that ended the deck
pub over_for_good : (blocks : List (List ℕ)) (t : Table) → t.deck.is_over ≡ true → deal_blocks blocks t ≡ lines [] 0 t
unfolding deal_blocks
over_for_good [] t e = refl
over_for_good (block ∷ blocks) t e =
    ap (λ (l : Lines). then_deal l (λ next. deal_blocks blocks next)) (over_stays block t e)
    ∙ nothing_first (λ next. deal_blocks blocks next) t ∙ over_for_good blocks t e
