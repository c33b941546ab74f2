-- The first i units stand at each turn.
use mathlib.Core.Path.{◌≡◌}
use lib.ListN.{length, take}
use Rattle.loader_records.specs.Records.{units_from}
use Rattle.loader_records.proofs.entry.name_of.Given as goal

abbrev pub invariant-loop-i : goal.invariant-loop-i
invariant-loop-i l = (length l.name ≡ 20) × (take l.i l.name ≡ units_from l.i 5 l.b)
