-- A turn takes the next byte (`over_next`); past the end nothing is left (`over_past`).
use Rattle.std.proofs.Common.{ℕ, ◌+◌, drop, ap, sym, ◌∙◌, arith}
use Rattle.crc.specs.Check.{crc_over}
use Rattle.crc.proofs.Laws.{over_next, over_past}
use Rattle.crc.proofs.over_bytes.Goals as goal

pub loop-byte-preserved : goal.loop-byte-preserved
loop-byte-preserved c =
    let l = c.loop-byte in
    let s = c.args.bytes.now in
    ap (λ (r : ℕ). crc_over r (drop (l.byte-index + 1) s)) c.byte_step-c.ensures ∙ sym (over_next l.c l.byte-index s (omega arith)) ∙ l.invariant

pub returns : goal.returns
returns c = sym (over_past c.loop-byte.c c.loop-byte.byte-index c.args.bytes.now (omega arith)) ∙ c.loop-byte.invariant
