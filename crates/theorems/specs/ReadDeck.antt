-- A deck over any way of reading its blocks: what a block does and the lines of a deck, word for word, but for the reading.
use Rattle.std.specs.Prelude.{ℕ, List, [], ◌∷◌}
use Rattle.promise.specs.Told.{Told}
use Rattle.promise.specs.Rules.{pick}
use Rattle.deck_block.specs.declared.Request.{Request}
use Rattle.deck.specs.Deal.{Deal}
use Rattle.deck.specs.Dealing.{deal_asked}
use Rattle.deck.specs.Bench.{next_tag, next_number}
use Rattle.deck_line.specs.Line.{line_text}
use Rattle.deck_chunk.specs.Deck.{Table, Lines, lines, then_deal, table_after}
use Rattle.theorems.specs.Deck.{head_of}

module _ (read : ℕ → List ℕ → Told Request) where
  -- what the block that has this tag comes to
  abbrev pub dealt_read : List ℕ → Table → Deal
  dealt_read block t = deal_asked (next_tag t.deck.bench) (read (next_tag t.deck.bench) block) (head_of t)

  -- its line, and nothing once the deck is over
  unfoldable pub next_read : List ℕ → Table → Lines
  next_read block t =
      pick t.deck.is_over
      (lines [] 0 t)
      (lines (line_text (next_number t.deck.bench) (dealt_read block t).told) 1 (table_after t block (dealt_read block t)))

  unfoldable pub deal_read : List (List ℕ) → Table → Lines
  deal_read [] t = lines [] 0 t
  deal_read (block ∷ blocks) t = then_deal (next_read block t) (λ next. deal_read blocks next)
