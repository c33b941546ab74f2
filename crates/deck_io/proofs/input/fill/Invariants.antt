-- What is filled stands within the chunk, and each turn brings a byte at least or is the last.
use Rattle.std.proofs.Common.{◌≤◌, ◌-◌, length}
use Rattle.deck_io.proofs.input.fill.Given as goal

abbrev pub invariant-loop-count : goal.invariant-loop-count
invariant-loop-count g l = l.count ≤ length l.chunk

abbrev pub decreases-loop-count : goal.decreases-loop-count
decreases-loop-count g l = length l.chunk - l.count
