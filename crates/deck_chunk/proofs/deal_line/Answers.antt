-- The bench deals the block, and its line has the bench's number.
use Prim.Native.Nat.{ℕ}
use mathlib.Core.Path.{ap₂, ◌∙◌}
use Rattle.promise.specs.Told.{Told}
use Rattle.operation_finish.specs.Reply.{Reply}
use Rattle.deck.specs.Bench.{bench_at}
use Rattle.deck_line.specs.Line.{line_text, line}
use Rattle.deck_chunk.proofs.deal_line.Goals as goal

pub returns : goal.returns
returns c =
    let dealt = c.deal-step in
    let m = dealt.ensures in
    record {
      text = c.line_of.ensures ∙ ap₂ (λ (n : ℕ) (t : Told Reply). line (line_text n t)) m.number m.tells;
      counted = ap₂ (λ (n t : ℕ). bench_at dealt.result.bench.device n t) m.number m.tag;
      leaves = m.leaves;
    }
