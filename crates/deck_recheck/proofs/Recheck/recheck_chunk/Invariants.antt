-- What is rechecked and what is left make the whole.
use Rattle.deck_recheck.specs.Recheck.{standing}
use Rattle.deck_recheck.proofs.Laws.{OnTheWay}
use Rattle.deck_recheck.proofs.Recheck.recheck_chunk.Given as goal

abbrev pub invariant-loop-from : goal.invariant-loop-from
invariant-loop-from l = OnTheWay l.initial.chunk (standing l.initial.self) (record { bytes = l.from; recheck = l.self }) l.chunk
