-- What somebody sees who deals a deck chunk by chunk.
use Rattle.std.specs.Prelude.{ℕ, ◌*◌, ◌≤◌, List, [], ◌∷◌, ◌++◌, length, take}
use Rattle.deck_line.specs.Line.{longest_line}
use Rattle.deck_block.specs.Blocks.{begun}
use Rattle.deck_chunk.specs.declared.ChunkStep.{ChunkStep}
use Rattle.deck_chunk.specs.Deck.{Table, table}
use Rattle.deck_chunk.specs.Chunk.{deal_chunk, ChunkMeets}
use Rattle.std.specs.Prelude.{Result}
use Rattle.deck_chunk.specs.declared.ChunkCount.{ChunkCount}
use Rattle.rule_number.specs.declared.OutputTooShort.{OutputTooShort}
use Rattle.std.specs.declared.result.Result.TheVariants.{Ok, Err}

-- the lines in a buffer after a chunk, by its answer
unfoldable pub written : Result ChunkCount OutputTooShort → List ℕ → List ℕ
written (Ok count) buffer = take count.bytes buffer
written (Err e) buffer = []

-- any caller of `deal_chunk` who deals these chunks in this order, each with a buffer that is long enough: the lines that were written, joined, and
-- what is left
pub data Deals : Table → List (List ℕ) → List ℕ → Table → Type 0 where
  no_more : (t : Table) → Deals t [] [] t
  a_chunk : (t : Table) (chunk buffer : List ℕ) (r : ChunkStep) (after flash store : List ℕ) (chunks : List (List ℕ)) (text : List ℕ) (end : Table)
      → longest_line * begun (length chunk) ≤ length buffer → ChunkMeets r after flash store (deal_chunk chunk t buffer)
      → Deals (table r.deck flash store) chunks text end
      → Deals t (chunk ∷ chunks) (written r.answer after ++ text) end
