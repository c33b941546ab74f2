-- What is put of the bytes that are left stays what the start takes of all of them.
use mathlib.Core.Path.{◌≡◌}
use lib.ListN.{drop}
use Rattle.deck_line.specs.Digits.{hex}
use Rattle.deck_line.specs.Code.{put_all}
use Rattle.deck_line.proofs.Line.put_hex.Given as goal

abbrev pub invariant-loop-byte : goal.invariant-loop-byte
invariant-loop-byte l = put_all l.self (hex (drop l.byte-index l.bytes)) ≡ put_all l.initial.self (hex l.bytes)
