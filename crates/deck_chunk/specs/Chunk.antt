-- A chunk of a deck, with a lent buffer for its lines.
use Rattle.std.specs.Prelude.{ℕ, ◌*◌, ◌≡◌, List, [], ◌∷◌, length}
use Rattle.promise.specs.Told.{Told, given, refused}
use Rattle.promise.specs.Bytes.{front}
use Rattle.promise.specs.Rules.{Rule, room_rule, too_short, or_refuse}
use Rattle.deck_line.specs.Line.{longest_line}
use Rattle.deck_block.specs.Blocks.{begun}
use Rattle.deck_chunk.specs.declared.ChunkCount.{ChunkCount}
use Rattle.deck_chunk.specs.declared.ChunkStep.{ChunkStep}
use Rattle.deck_chunk.specs.Deck.{Table, table, Lines, deal_all}
use Rattle.std.specs.Prelude.{Result}
use Rattle.rule_number.specs.declared.OutputTooShort.{OutputTooShort}
use Rattle.std.specs.declared.result.Result.TheVariants.{Ok, Err}

-- number and values of every answer
unfoldable pub chunk_told : Result ChunkCount OutputTooShort → Told ChunkCount
chunk_told (Ok count) = given count
chunk_told (Err e) = refused too_short []

-- what a chunk comes to: what is told, the deck with what is lent to it, and the buffer for its lines
pub record Chunk : Type 0 where
  pub told : Told ChunkCount
  pub leaves : Table
  pub lines : List ℕ

-- 20: the buffer has less than the longest line for each block that is begun
abbrev pub chunk_rules : ℕ → ℕ → List Rule
chunk_rules bytes room = room_rule room (longest_line * begun bytes) ∷ []

abbrev pub chunk_dealt : Lines → List ℕ → Chunk
chunk_dealt dealt buffer =
    record {
      told = given (record { blocks = dealt.blocks; bytes = length dealt.text });
      leaves = dealt.leaves;
      lines = front dealt.text buffer;
    }

unfoldable pub deal_chunk : List ℕ → Table → List ℕ → Chunk
deal_chunk bytes t buffer =
    or_refuse (λ number values. record { told = refused number values; leaves = t; lines = buffer })
    (chunk_rules (length bytes) (length buffer))
    (chunk_dealt (deal_all bytes t) buffer)

-- a chunk that is answered r and leaves its lent bytes so
pub record ChunkMeets (r : ChunkStep) (buffer flash store : List ℕ) (c : Chunk) : Type 0 where
  pub tells : chunk_told r.answer ≡ c.told
  pub leaves : table r.deck flash store ≡ c.leaves
  pub lines : buffer ≡ c.lines
