-- A whole number of sectors is done, a refusal is told.
use Rattle.mock_base.proofs.Telling.{size_answered}
use Rattle.mock_base.proofs.range.size_answer.Goals as goal

pub returns : goal.returns
returns c = size_answered _ c.args.size c.map.result c.map.ensures.cases
