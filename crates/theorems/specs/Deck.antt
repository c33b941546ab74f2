-- A bench between blocks: the head, its counters, and the numbers that a block may be refused with.
use Rattle.std.specs.Prelude.{ℕ, ◌%◌, ◌^◌, List, [], ◌∷◌, ◌++◌, length, ◌≡◌, true}
use Rattle.theorems.specs.Standing.{Standing, Sized}
use Rattle.deck.specs.Deal.{Head, head}
use Rattle.deck.specs.declared.bench.Bench.{Bench}
use Rattle.promise.specs.Told.{Told, given, refused}
use Rattle.operation_finish.specs.Reply.{Reply}
use Rattle.deck_block.specs.Refusals.{is_among, block_refusals}
use Rattle.promise.specs.Rules.{pick}
use Rattle.deck.specs.Bench.{next_number}
use Rattle.deck_chunk.specs.Deck.{Table, deal_of, deal_next}
use Rattle.mock_base.specs.declared.cells.Variety.{Variety}

pub record Ready (v : Variety) (sectors : ℕ) (h : Head) : Type 0 where
  pub stands : Standing v h.device h.flash (length h.store) sectors
  pub sized : Sized h.device.config

-- the head of a deck, and what is lent to it
abbrev pub head_of : Table → Head
head_of t = head t.deck.bench.device t.flash t.store

-- what the counters of a bench say after k blocks
pub record Counts (k : ℕ) (bench : Bench) : Type 0 where
  pub number : bench.number ≡ k % 2 ^ 64
  pub tag : bench.tag ≡ k % 2 ^ 32

-- the numbers that what a block asks for is refused with; then, with these, those of the block itself
abbrev pub done_refusals : List ℕ
done_refusals = 53 ∷ 54 ∷ 57 ∷ 58 ∷ 59 ∷ []

abbrev pub bench_refusals : List ℕ
bench_refusals = block_refusals ++ done_refusals

abbrev pub BenchTold : Told Reply → Type 0
BenchTold (given reply) = Unit
BenchTold (refused n values) = is_among n bench_refusals ≡ true

-- the lines of blocks, each made by `text` from its number and what is told of it
unfoldable pub lines_by : (ℕ → Told Reply → List ℕ) → List (List ℕ) → Table → List ℕ
lines_by text [] t = []
lines_by text (block ∷ blocks) t =
    pick t.deck.is_over [] (text (next_number t.deck.bench) (deal_of t block).told) ++ lines_by text blocks (deal_next block t).leaves
