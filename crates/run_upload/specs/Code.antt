-- What the private functions make: a reader of the promises needs none of it.
use Rattle.std.specs.Prelude.{ℕ, Result}
use Rattle.std.specs.declared.result.Result.TheVariants.{Ok, Err}
use Rattle.std.specs.declared.ops.ControlFlow.{ControlFlow}
use Rattle.std.specs.declared.ops.ControlFlow.TheVariants.{Continue, Break}
use Rattle.maskrom.specs.declared.WholeUpload.{WholeUpload}
use Rattle.mock_base.specs.declared.error.MockTransportError.{MockTransportError}
use Rattle.mock.specs.declared.device.MockState.{MockState}
use Rattle.mock.specs.declared.device.MockStep.{MockStep}
use Rattle.run_upload.specs.declared.LoadStopError.{LoadStopError}
use Rattle.run_upload.specs.declared.LoadStopError.TheVariants.{Device}
use Rattle.run_upload.specs.declared.LoadError.{LoadError}
use Rattle.run_upload.specs.declared.LoadError.TheVariants.{Stopped}
use Rattle.run_upload.specs.declared.LoadTurned.{LoadTurned}
use Rattle.run_upload.specs.declared.LoadRun.{LoadRun}

-- the records as the code makes them
abbrev pub turned_by : ControlFlow (Result Unit LoadStopError) Unit → WholeUpload → MockState → LoadTurned
turned_by turn upload device = record { turn = turn; upload = upload; device = device }

abbrev pub run_by : Result Unit LoadError → ℕ → WholeUpload → MockState → LoadRun
run_by answer steps upload device = record { answer = answer; steps = steps; upload = upload; device = device }

-- a turn's stop as the answer of the run
abbrev pub ended : Result Unit LoadStopError → Result Unit LoadError
ended (Ok done) = Ok tt
ended (Err error) = Err (Stopped error)

unfoldable pub after_result : Result Unit MockTransportError → ControlFlow (Result Unit LoadStopError) Unit
after_result (Ok done) = Continue tt
after_result (Err error) = Break (Err (Device error))

abbrev pub after_control : WholeUpload → MockStep → LoadTurned
after_control upload sent = turned_by (after_result sent.answer.result) upload sent.state
