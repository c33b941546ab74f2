-- The counts stand in the header that was read.
use mathlib.Core.Path.{ap}
use Rattle.loader_walk.specs.Code.{header_counts}
use Rattle.loader_walk.proofs.whole.counts_of.Goals as goal

pub returns : goal.returns
returns c = ap header_counts c.from_bytes.ensures.value
