-- The deck as a whole: from all bytes of the input to the lines, and to what the blocks leave.
use Rattle.std.specs.Prelude.{ℕ, ◌+◌, false, List, [], ◌∷◌, ◌++◌, length, replicate}
use Rattle.promise.specs.Rules.{pick}
use Rattle.mock_base.specs.Config.{default_flash}
use Rattle.deck_block.specs.Blocks.{is_short, blocks_of}
use Rattle.deck.specs.declared.bench.Bench.{Bench}
use Rattle.deck.specs.Deal.{Deal}
use Rattle.deck.specs.Bench.{fresh_bench, next_tag, next_number, bench_at, next_deal}
use Rattle.deck_line.specs.Line.{line_text}
use Rattle.deck_chunk.specs.declared.Deck.{Deck}

-- a deck's record, and the flash and the store that are lent to it
pub record Table : Type 0 where
  pub deck : Deck
  pub flash : List ℕ
  pub store : List ℕ

abbrev pub table : Deck → List ℕ → List ℕ → Table
table deck flash store = record { deck = deck; flash = flash; store = store }

-- what blocks come to: their lines, how many were dealt, and what is left
pub record Lines : Type 0 where
  pub text : List ℕ
  pub blocks : ℕ
  pub leaves : Table

abbrev pub lines : List ℕ → ℕ → Table → Lines
lines text blocks leaves = record { text = text; blocks = blocks; leaves = leaves }

-- some blocks, and then more
abbrev pub then_deal : Lines → (Table → Lines) → Lines
then_deal l more = lines (l.text ++ (more l.leaves).text) (l.blocks + (more l.leaves).blocks) (more l.leaves).leaves

abbrev pub deal_of : Table → List ℕ → Deal
deal_of t block = next_deal t.deck.bench block t.flash t.store

-- the head after a block, and the next number and tag
abbrev pub table_after : Table → List ℕ → Deal → Table
table_after t block dealt =
    table
    (record {
      bench = bench_at dealt.leaves.device (next_number t.deck.bench) (next_tag t.deck.bench);
      is_over = is_short block;
    })
    dealt.leaves.flash
    dealt.leaves.store

-- a block's line, and nothing once the deck is over
unfoldable pub deal_next : List ℕ → Table → Lines
deal_next block t =
    pick t.deck.is_over
    (lines [] 0 t)
    (lines (line_text (next_number t.deck.bench) (deal_of t block).told) 1 (table_after t block (deal_of t block)))

unfoldable pub deal_blocks : List (List ℕ) → Table → Lines
deal_blocks [] t = lines [] 0 t
deal_blocks (block ∷ blocks) t = then_deal (deal_next block t) (λ next. deal_blocks blocks next)

-- all of an input, from wherever the deck stands
abbrev pub deal_all : List ℕ → Table → Lines
deal_all input t = deal_blocks (blocks_of input) t

-- a deck of which no block is dealt yet
abbrev pub new_deck : Bench → Deck
new_deck bench = record { bench = bench; is_over = false }

-- "The device starts as the Rust's default", with a store
abbrev pub fresh_deck : ℕ → Deck
fresh_deck storeLength = new_deck (fresh_bench storeLength)

abbrev pub deck_start : List ℕ → Table
deck_start store = table (fresh_deck (length store)) default_flash store

-- all lines that are printed for an input
abbrev pub deck_lines : List ℕ → List ℕ → List ℕ
deck_lines store input = (deal_all input (deck_start store)).text

-- "with a 65,536-byte store"
abbrev pub bench_store_length : ℕ
bench_store_length = 65536

unfoldable pub bench_store : List ℕ
bench_store = replicate bench_store_length 0

-- all lines that `bench` prints for an input
abbrev pub bench_lines : List ℕ → List ℕ
bench_lines input = deck_lines bench_store input
