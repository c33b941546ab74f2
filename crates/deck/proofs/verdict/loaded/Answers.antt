-- The verdict tells what the run's answer does, and there are no bytes beside it.
use Rattle.std.proofs.Common.{refl}
use Rattle.deck.proofs.verdict.loaded.Goals as goal

pub returns : goal.returns
returns c =
    let blank = c.blank in
    record { tells = c.of_load.ensures blank.result; beside = blank.ensures; device = refl }
