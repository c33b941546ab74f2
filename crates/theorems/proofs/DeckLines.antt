-- Where the lines of a deck end: there are none for no input, and none behind a short block, which is told as 44.
use Prim.Native.Nat.{ℕ, ◌+◌, ◌<◌}
use mathlib.Core.Path.{◌≡◌, refl, ap}
use mathlib.Core.Bool.{Bool, true, false}
use mathlib.Core.List.{List, [], ◌∷◌, ◌++◌}
use lib.ListN.{length}
use borrow.Author.Tests.{lt-ltb}
use Rattle.promise.specs.Told.{refused}
use Rattle.promise.specs.Rules.{or_refuse}
use Rattle.deck_block.specs.Block.{block_length}
use Rattle.deck_block.specs.Reading.{read_by}
use Rattle.deck.specs.Dealing.{deal_asked, deal_block}
use Rattle.deck.specs.Deal.{Head, away}
use Rattle.deck.specs.Bench.{next_tag}
use Rattle.deck_chunk.specs.Deck.{Table, Lines, lines, deal_of, deal_next, deal_blocks, deck_start, deck_lines}
use Rattle.deck_chunk.proofs.Cuts.{no_input, over_for_good}

pub no_lines : (store : List ℕ) → deck_lines store [] ≡ []
no_lines store = ap (λ (l : Lines). l.text) (no_input (deck_start store))

-- 44 alone is told of a short block, and it leaves the head as it was
short_away : (tag : ℕ) (block : List ℕ) (h : Head) → length block < block_length → deal_block tag block h ≡ away 44 h
unfolding deal_block deal_asked read_by or_refuse
short_away tag block h short = rw (lt-ltb (length block) block_length short) refl

pub short_is_44 : (t : Table) (block : List ℕ) → length block < block_length → (deal_of t block).told ≡ refused 44 []
short_is_44 t block short = rw (short_away (next_tag t.deck.bench) block (record { device = t.deck.bench.device; flash = t.flash; store = t.store }) short)

-- a deck that a short block leaves is over
ends : (block : List ℕ) (t : Table) (is_over : Bool) → t.deck.is_over ≡ is_over → length block < block_length → (deal_next block t).leaves.deck.is_over ≡ true
unfolding deal_next
ends block t true e short = rw e refl
ends block t false e short = rw e (lt-ltb (length block) block_length short)

pub stops_after_44 : (block : List ℕ) (more : List (List ℕ)) (t : Table) → length block < block_length → deal_blocks (block ∷ more) t ≡ deal_blocks (block ∷ []) t
unfolding deal_blocks
stops_after_44 block more t short =
    let l = deal_next block t in
    ap (λ (rest : Lines). lines (l.text ++ rest.text) (l.blocks + rest.blocks) rest.leaves)
    (over_for_good more l.leaves (ends block t t.deck.is_over refl short))
