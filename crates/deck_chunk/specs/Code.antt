-- What the private functions of the code promise.
use Rattle.std.specs.Prelude.{ℕ, ◌+◌, ◌≤◌, ◌≡◌, List, length}
use Rattle.promise.specs.Bytes.{front}
use Rattle.promise.specs.Over.{over}
use Rattle.deck.specs.declared.bench.Bench.{Bench}
use Rattle.deck.specs.Deal.{head}
use Rattle.deck.specs.Bench.{next_tag, next_number, bench_at, next_deal}
use Rattle.deck_line.specs.Line.{line_text, line, longest_line}
use Rattle.deck_chunk.specs.declared.Lined.{Lined}
use Rattle.deck_chunk.specs.declared.Progress.{Progress}
use Rattle.deck_chunk.specs.Deck.{table, Lines}

-- the line of a block, and what the block leaves
pub record LinedMeets (r : Lined) (flash store : List ℕ) (bench : Bench) (block before held : List ℕ) : Type 0 where
  pub text : r.line ≡ line (line_text (next_number bench) (next_deal bench block before held).told)
  pub counted : r.bench ≡ bench_at r.bench.device (next_number bench) (next_tag bench)
  pub leaves : head r.bench.device flash store ≡ (next_deal bench block before held).leaves

-- one block more
pub record NextMeets (r : Progress) (buffer flash store : List ℕ) (p : Progress) (lent : List ℕ) (n : Lines) : Type 0 where
  pub leaves : table r.deck flash store ≡ n.leaves
  pub blocks : r.blocks ≡ p.blocks + n.blocks
  pub bytes : r.bytes ≡ p.bytes + length n.text
  pub lines : buffer ≡ over p.bytes n.text lent
  pub one : n.blocks ≤ 1
  pub short : length n.text ≤ longest_line

-- all blocks of a chunk
pub record DoneMeets (r : Progress) (buffer flash store : List ℕ) (lent : List ℕ) (l : Lines) : Type 0 where
  pub leaves : table r.deck flash store ≡ l.leaves
  pub blocks : r.blocks ≡ l.blocks
  pub bytes : r.bytes ≡ length l.text
  pub lines : buffer ≡ front l.text lent
