-- What is put of the bytes that are left stays what the start takes of all of them.
use mathlib.Core.Path.{sym, ◌∙◌}
use native.Mathlib.Omega.{arith}
use Rattle.deck_line.proofs.LineLaws.{hex_turn, hex_past}
use Rattle.deck_line.proofs.Line.put_hex.Goals as goal

pub loop-byte-preserved : goal.loop-byte-preserved
loop-byte-preserved c =
    let l = c.loop-byte in
    let s = c.args.bytes.now in
    hex_turn l.self _ _ _ _ l.byte-index s (omega arith) c.digit_of.ensures c.put.ensures
    c.digit_of-in-loop-byte.ensures c.put-self.ensures
    ∙ l.invariant

pub returns : goal.returns
returns c =
    let l = c.loop-byte in
    sym (hex_past l.self l.byte-index c.args.bytes.now (omega arith)) ∙ l.invariant
