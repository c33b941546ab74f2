-- What is converted and what is left make the whole.
use Rattle.deck_convert.proofs.Laws.{OnTheWay}
use Rattle.deck_convert.proofs.Convert.convert_chunk.Given as goal

abbrev pub invariant-loop-at : goal.invariant-loop-at
invariant-loop-at l = OnTheWay l.initial.chunk l.initial.self l.chunk l.self l.at
