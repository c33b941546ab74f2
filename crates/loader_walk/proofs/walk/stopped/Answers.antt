-- No entry, and the walk as it was.
use mathlib.Core.Path.{refl}
use Rattle.loader_walk.proofs.walk.stopped.Goals as goal

pub returns : goal.returns
returns c = rw c.none.ensures refl
