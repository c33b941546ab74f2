-- The number of an answer is the number of what it tells.
use mathlib.Core.Path.{◌≡◌, refl}
use Rattle.std.specs.Prelude.{Result}
use Rattle.std.specs.declared.result.Result.TheVariants.{Ok, Err}
use Rattle.promise.specs.Told.{number}
use Rattle.rule_number.specs.Number.{number_of}
use Rattle.maskrom.specs.declared.PartStep.{PartStep}
use Rattle.maskrom.specs.declared.PartStep.TheVariants.{Taken, WriteControl}
use Rattle.maskrom.specs.declared.PartError.{PartError}
use Rattle.maskrom.specs.declared.PartError.TheVariants as part_error
use Rattle.maskrom.specs.declared.UploadStep.{UploadStep}
use Rattle.maskrom.specs.declared.UploadStep.TheVariants as upload
use Rattle.maskrom.specs.declared.UploadError.{UploadError}
use Rattle.maskrom.specs.declared.UploadError.TheVariants as upload_error
use Rattle.maskrom.specs.declared.ImageTooLong.{ImageTooLong}
use Rattle.maskrom.specs.Answers.{part_told, step_told, start_told, part_error_number, upload_error_number, image_too_long_number}

pub part_number : (r : Result PartStep PartError) → number (part_told r) ≡ number_of part_error_number r
unfolding number part_told
part_number (Ok (Taken n)) = refl
part_number (Ok (WriteControl n c)) = refl
part_number (Err part_error.OutputTooShort) = refl
part_number (Err part_error.AlreadyClosed) = refl
part_number (Err part_error.ImageTooLong) = refl

pub step_number : (r : Result UploadStep UploadError) → number (step_told r) ≡ number_of upload_error_number r
unfolding number step_told
step_number (Ok (upload.WriteControl c)) = refl
step_number (Ok upload.Finished) = refl
step_number (Err upload_error.OutputTooShort) = refl
step_number (Err upload_error.ImageDiffers) = refl

pub start_number : (r : Result Unit ImageTooLong) → number (start_told r) ≡ number_of image_too_long_number r
unfolding number start_told
start_number (Ok u) = refl
start_number (Err e) = refl
