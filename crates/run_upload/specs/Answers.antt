-- Number and values of every answer of a run.
use Rattle.std.specs.Prelude.{ℕ, ◌≡◌, List, [], Result}
use Rattle.std.specs.declared.result.Result.TheVariants.{Ok, Err}
use Rattle.std.specs.declared.ops.ControlFlow.{ControlFlow}
use Rattle.std.specs.declared.ops.ControlFlow.TheVariants.{Continue, Break}
use Rattle.promise.specs.Told.{Told, given, refused}
use Rattle.promise.specs.Rules.{differs, too_short}
use Rattle.promise.specs.Run.{Turned, ends, goes, End, tells, out_of_steps, Ran}
use Rattle.protocol_bytes.specs.Signature.{no_signature}
use Rattle.maskrom.specs.declared.UploadError.{UploadError}
use Rattle.maskrom.specs.declared.UploadError.TheVariants as upload
use Rattle.mock_base.specs.Told.{error_number, error_told}
use Rattle.run_upload.specs.declared.LoadStopError.{LoadStopError}
use Rattle.run_upload.specs.declared.LoadStopError.TheVariants.{Device, OutputTooShort, ImageDiffers}
use Rattle.run_upload.specs.declared.LoadError.{LoadError}
use Rattle.run_upload.specs.declared.LoadError.TheVariants.{Stopped, OutOfSteps}
use Rattle.run_upload.specs.declared.LoadTurned.{LoadTurned}
use Rattle.run_upload.specs.declared.LoadRun.{LoadRun}
use Rattle.run_upload.specs.Load.{LoadState, load_state}

-- the number of each refusal, and what a step's is as a run's
abbrev pub stop_error_number : LoadStopError → ℕ
stop_error_number (Device error) = error_number error
stop_error_number OutputTooShort = 20
stop_error_number ImageDiffers = 27

abbrev pub load_error_number : LoadError → ℕ
load_error_number (Stopped error) = stop_error_number error
load_error_number OutOfSteps = 28

abbrev pub stop_by_step : UploadError → LoadStopError
stop_by_step upload.OutputTooShort = OutputTooShort
stop_by_step upload.ImageDiffers = ImageDiffers

-- the finish, the device's refusal, or a step's
unfoldable pub load_stop_told : Result Unit LoadStopError → Told Unit
load_stop_told (Ok done) = given tt
load_stop_told (Err (Device error)) = error_told error no_signature
load_stop_told (Err OutputTooShort) = refused too_short []
load_stop_told (Err ImageDiffers) = refused differs []

unfoldable pub turn_told : ControlFlow (Result Unit LoadStopError) Unit → LoadState → Turned Unit LoadState
turn_told (Continue on) s = goes s
turn_told (Break stop) s = ends (load_stop_told stop) s

unfoldable pub answer_end : Result Unit LoadError → End Unit
answer_end (Ok done) = tells (given tt)
answer_end (Err (Stopped error)) = tells (load_stop_told (Err error))
answer_end (Err OutOfSteps) = out_of_steps

-- a turn that answers r and leaves the store so
pub record TurnMeets (r : LoadTurned) (store : List ℕ) (t : Turned Unit LoadState) : Type 0 where
  pub tells : turn_told r.turn (load_state r.upload r.device store) ≡ t

-- a run that answers r and leaves the store so
pub record RunMeets (r : LoadRun) (store : List ℕ) (run : Ran Unit LoadState) : Type 0 where
  pub tells : answer_end r.answer ≡ run.end
  pub steps : r.steps ≡ run.steps
  pub leaves : load_state r.upload r.device store ≡ run.state
