-- The number of an answer is the number of what it tells.
use mathlib.Core.Path.{◌≡◌, refl}
use Rattle.std.specs.Prelude.{Result}
use Rattle.std.specs.declared.result.Result.TheVariants.{Ok, Err}
use Rattle.promise.specs.Told.{number}
use Rattle.promise.specs.Run.{end_told}
use Rattle.rule_number.specs.Number.{number_of}
use Rattle.run_upload.specs.declared.LoadStopError.{LoadStopError}
use Rattle.run_upload.specs.declared.LoadStopError.TheVariants.{Device, OutputTooShort, ImageDiffers}
use Rattle.run_upload.specs.declared.LoadError.{LoadError}
use Rattle.run_upload.specs.declared.LoadError.TheVariants.{Stopped, OutOfSteps}
use Rattle.run_upload.specs.Answers.{stop_error_number, load_error_number, load_stop_told, answer_end}

pub load_stop_number : (r : Result Unit LoadStopError) → number (load_stop_told r) ≡ number_of stop_error_number r
unfolding number load_stop_told
load_stop_number (Ok done) = refl
load_stop_number (Err (Device error)) = refl
load_stop_number (Err OutputTooShort) = refl
load_stop_number (Err ImageDiffers) = refl

pub answer_number : (r : Result Unit LoadError) → number (end_told (answer_end r)) ≡ number_of load_error_number r
unfolding number end_told answer_end load_stop_told
answer_number (Ok done) = refl
answer_number (Err (Stopped (Device error))) = refl
answer_number (Err (Stopped OutputTooShort)) = refl
answer_number (Err (Stopped ImageDiffers)) = refl
answer_number (Err OutOfSteps) = refl
