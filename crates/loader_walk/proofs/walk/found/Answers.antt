-- Each field as it stands.
use mathlib.Core.Path.{refl}
use Rattle.loader_walk.proofs.walk.found.Goals as goal

pub returns : goal.returns
returns c = refl
