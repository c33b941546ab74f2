-- A rechecked deck does what the deck made before does when its blocks are read by their first check: the same lines, and the same head behind them.
use Prim.Native.Nat.{ℕ, ◌≤◌}
use mathlib.Core.Path.{◌≡◌, refl, ap, sym, ◌∙◌}
use mathlib.Core.Bool.{Bool, false}
use mathlib.Core.List.{List, [], ◌∷◌}
use native.Mathlib.Omega.{arith}
use borrow.Author.Tests.{le-ltb}
use lib.ListN.{length}
use Rattle.promise.specs.Told.{Told}
use Rattle.deck_block.specs.declared.Request.{Request}
use Rattle.deck_block.specs.Block.{block_length, checked_length, with_check}
use Rattle.deck_block.specs.Place.{RightBefore, RightDeckBefore, tag_after, with_checks}
use Rattle.deck_block.specs.Blocks.{is_short, joined}
use Rattle.deck_block.specs.Reading.{read_card, read_before}
use Rattle.deck_block.proofs.Place.{right_whole}
use Rattle.deck_block.proofs.Blocks.{blocks_back}
use Rattle.deck_block.proofs.Rechecked.{whole_block, reads_as_before}
use Rattle.deck.specs.Deal.{Deal}
use Rattle.deck.specs.Dealing.{deal_asked, deal_block}
use Rattle.deck.specs.Bench.{next_tag, next_number, bench_at}
use Rattle.deck_line.specs.Line.{line_text}
use Rattle.deck_recheck.proofs.Exactly.{new_deck_right}
use Rattle.deck_chunk.specs.Deck.{Table, table, Lines, lines, then_deal, deal_next, deal_blocks, deal_all, deck_start}
use Rattle.theorems.specs.Deck.{head_of}
use Rattle.theorems.specs.ReadDeck.{dealt_read, next_read, deal_read}

-- the deck as it is read today
pub read_today : (blocks : List (List ℕ)) (t : Table) → deal_blocks blocks t ≡ deal_read read_card blocks t
unfolding deal_blocks deal_read deal_next next_read deal_block
read_today [] t = refl
read_today (block ∷ blocks) t =
    ap (λ (l : Lines). then_deal (next_read read_card block t) (λ next. l)) (read_today blocks (next_read read_card block t).leaves)

-- a block that was right before, read by its first check
abbrev read_then : ℕ → List ℕ → Told Request
read_then tag block = read_before block

-- a block's line, and the table behind it
abbrev behind : Table → Bool → Deal → Lines
behind t short d =
    lines (line_text (next_number t.deck.bench) d.told) 1
    (table (record { bench = bench_at d.leaves.device (next_number t.deck.bench) (next_tag t.deck.bench); is_over = short }) d.leaves.flash d.leaves.store)

next_is : (read : ℕ → List ℕ → Told Request) (block : List ℕ) (t : Table) → t.deck.is_over ≡ false
    → next_read read block t ≡ behind t (is_short block) (dealt_read read block t)
unfolding next_read
next_is read block t on = rw on refl

module _ (tag : ℕ) (block : List ℕ) (t : Table) (here : next_tag t.deck.bench ≡ tag) (on : t.deck.is_over ≡ false)
    (long : block_length ≤ length block) (right : RightBefore block) where
  same_deal : dealt_read read_card (with_check tag block) t ≡ dealt_read read_then block t
  same_deal =
      ap (λ (told : Told Request). deal_asked (next_tag t.deck.bench) told (head_of t))
      (ap (λ (k : ℕ). read_card k (with_check tag block)) here ∙ reads_as_before tag block long right)

  old_whole : is_short block ≡ false
  old_whole = le-ltb (length block) block_length long

  new_whole : is_short (with_check tag block) ≡ false
  new_whole =
      let enough : checked_length ≤ length block = omega arith in
      le-ltb (length (with_check tag block)) block_length (let e = whole_block tag block enough in omega arith)

  same_line : next_read read_card (with_check tag block) t ≡ next_read read_then block t
  same_line =
      let told = dealt_read read_then block t in
      next_is read_card (with_check tag block) t on
      ∙ ap (λ (d : Deal). behind t (is_short (with_check tag block)) d) same_deal
      ∙ ap (λ (short : Bool). behind t short told) (new_whole ∙ sym old_whole)
      ∙ sym (next_is read_then block t on)

  goes_on : (next_read read_then block t).leaves.deck.is_over ≡ false
  unfolding next_read
  goes_on = rw on old_whole

  tag_on : next_tag (next_read read_then block t).leaves.deck.bench ≡ tag_after tag
  unfolding next_read
  tag_on = rw on (ap tag_after here)

pub same_deck : (tag : ℕ) (blocks : List (List ℕ)) (t : Table) → next_tag t.deck.bench ≡ tag → t.deck.is_over ≡ false → RightDeckBefore blocks
    → deal_read read_card (with_checks tag blocks) t ≡ deal_read read_then blocks t
unfolding deal_read
same_deck tag [] t here on right = refl
same_deck tag (block ∷ blocks) t here on right =
    let next = (next_read read_then block t).leaves in
    ap (λ (l : Lines). then_deal l (λ more. deal_read read_card (with_checks (tag_after tag) blocks) more)) (same_line tag block t here on right.0.0 right.0.1)
    ∙ ap (λ (l : Lines). then_deal (next_read read_then block t) (λ more. l))
    (same_deck (tag_after tag) blocks next (tag_on tag block t here on right.0.0 right.0.1) (goes_on tag block t here on right.0.0 right.0.1) right.1)

-- from a fresh start: the rechecked bytes as an input
pub rechecked_deals : (blocks : List (List ℕ)) (store : List ℕ) → RightDeckBefore blocks
    → deal_all (joined (with_checks 1 blocks)) (deck_start store) ≡ deal_read read_then blocks (deck_start store)
rechecked_deals blocks store right =
    ap (λ (bs : List (List ℕ)). deal_blocks bs (deck_start store)) (blocks_back (with_checks 1 blocks) (right_whole 1 (with_checks 1 blocks) (new_deck_right 1 blocks right)))
    ∙ read_today (with_checks 1 blocks) (deck_start store)
    ∙ same_deck 1 blocks (deck_start store) refl refl right
