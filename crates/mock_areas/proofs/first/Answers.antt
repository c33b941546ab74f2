-- std's search answers the first place of the eight that passes.
use Rattle.std.proofs.Common.{◌∙◌, arith, rules, tests}
use Rattle.std.proofs.lemmas.Iterator.{YieldsList-from_slice}
use Rattle.std.proofs.lemmas.Iterator.Search.{position_from_yields_List}
use Rattle.mock_areas.specs.Slots.{passes}
use Rattle.mock_areas.proofs.Search.{found_among}
use Rattle.mock_areas.proofs.first.Goals as goal

pub returns : goal.returns
returns c =
    let test = passes c.args.wanted in
    position_from_yields_List test _ _ c.position.result c.position.ensures.ran (YieldsList-from_slice _ c.iter.ensures.rest)
    (λ x b q k. search (rules, tests))
    ∙ found_among test c.args.slots (omega arith)
