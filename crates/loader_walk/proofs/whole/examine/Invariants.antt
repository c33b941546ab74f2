-- A walk to its last step, which is the file's answer.
use Rattle.loader_walk.proofs.Examining.{Onward, left_in}
use Rattle.loader_walk.proofs.whole.examine.Given as goal

abbrev pub invariant-loop-walk : goal.invariant-loop-walk
invariant-loop-walk l = Onward l.file l.walk

abbrev pub decreases-loop-walk : goal.decreases-loop-walk
decreases-loop-walk l = left_in l.file l.walk
