-- What is written is of these bytes, and each turn takes a byte at least or is the last.
use Rattle.std.proofs.Common.{◌≤◌, ◌-◌, length}
use Rattle.deck_io.proofs.output.write_out.Given as goal

abbrev pub invariant-loop-count : goal.invariant-loop-count
invariant-loop-count g l = l.count ≤ length l.bytes

abbrev pub decreases-loop-count : goal.decreases-loop-count
decreases-loop-count g l = length l.bytes - l.count
