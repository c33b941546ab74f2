-- The length tells what it does at every call; the record is fresh.
use Rattle.promise.specs.Rules.{or_refuse}
use Rattle.mock_base.specs.Flash.{size_done}
use Rattle.mock.specs.Device.{block_rules, create_told, created}
use Rattle.mock.proofs.device.MockState.new.Goals as goal

pub returns : goal.returns
unfolding created create_told block_rules or_refuse size_done
returns c = rw (← c.flash_sectors.ensures) (record { tells = c.size_answer.ensures; fresh = c.fresh.ensures })
