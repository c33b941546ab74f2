-- The run that it calls is at the budget that its contract names.
use Rattle.run_upload.proofs.run_whole_upload.Goals as goal

pub returns : goal.returns
returns c = c.run_upload.ensures
