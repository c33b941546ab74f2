-- The length and the block size tell what they do; the record is fresh.
use Rattle.mock.specs.Device.{created}
use Rattle.mock.proofs.device.MockState.new_nor.Goals as goal

pub returns : goal.returns
unfolding created
returns c = record { tells = c.nor_answer.ensures; fresh = c.fresh.ensures }
