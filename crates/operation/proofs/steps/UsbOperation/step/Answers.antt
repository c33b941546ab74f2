-- By where the operation stands.
use Rattle.operation.specs.Step.{step_of}
use Rattle.operation.proofs.Cases.{step_as_lem}
use Rattle.operation.proofs.steps.UsbOperation.step.Goals as goal

pub returns-in-IO : goal.returns-in-IO
unfolding step_of
returns-in-IO c = step_as_lem _ _ _ _ _ _ _ c.in-IO.is (c.io_step.ensures c.args.out.now)

pub returns-in-CommandStatus : goal.returns-in-CommandStatus
unfolding step_of
returns-in-CommandStatus c = step_as_lem _ _ _ _ _ _ _ c.in-CommandStatus.is (c.status_step.ensures c.args.out.now)

pub returns-in-Finish : goal.returns-in-Finish
unfolding step_of
returns-in-Finish c = step_as_lem _ _ _ _ _ _ _ c.in-Finish.is (c.finish_step.ensures c.args.out.now)
