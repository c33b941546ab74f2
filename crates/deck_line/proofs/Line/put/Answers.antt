-- A full line stays, and one with room has the byte at its end.
use mathlib.Core.Path.{sym}
use Rattle.deck_line.proofs.LineLaws.{with_room, without_room}
use Rattle.deck_line.proofs.Line.put.Goals as goal

pub returns-then-self-ge-LONGEST : goal.returns-then-self-ge-LONGEST
returns-then-self-ge-LONGEST c = let a = c.args in sym (without_room a.self a.byte c.if-self-ge-LONGEST.true)

pub returns : goal.returns
returns c = let a = c.args in sym (with_room a.self a.byte c.if-self-ge-LONGEST.false)
