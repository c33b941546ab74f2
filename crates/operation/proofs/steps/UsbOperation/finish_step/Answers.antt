-- The finish's answer is passed on.
use Rattle.operation.specs.Step.{finish_step}
use Rattle.operation.proofs.Cases.{finish_meets}
use Rattle.operation.proofs.steps.UsbOperation.finish_step.Goals as goal

pub returns : goal.returns
unfolding finish_step
returns c = λ out.
    rw (c.finished.ensures, ← c.turned_to.ensures)
    (finish_meets c.finish_of-end.result c.turned_to.result _ out c.finish_of-end.ensures)
