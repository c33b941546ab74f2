-- By what was asked for.
use Rattle.operation.proofs.Cases.{give_as}
use Rattle.operation.proofs.steps.UsbOperation.give.Goals as goal

pub returns-in-Status : goal.returns-in-Status
returns-in-Status c = give_as _ _ _ _ _ _ _ c.in-Status.is (c.give_status.ensures c.args.«data».now)
