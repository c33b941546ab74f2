-- Eight times the free slot.
use mathlib.Core.Path.{refl}
use Rattle.mock_areas.specs.Slots.{fresh_areas}
use Rattle.mock_areas.proofs.Areas.new.Goals as goal

pub returns : goal.returns
unfolding fresh_areas
returns c = refl
