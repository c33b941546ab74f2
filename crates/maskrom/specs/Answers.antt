-- Number and values of each answer, as the rules have them.
use Rattle.std.specs.Prelude.{ℕ, []}
use Rattle.promise.specs.Told.{Told, given, refused}
use Rattle.maskrom.specs.declared.Control.{Control}
use Rattle.maskrom.specs.declared.PartStep.TheVariants as part
use Rattle.maskrom.specs.declared.UploadStep.TheVariants as upload
use Rattle.promise.specs.Rules.{differs, too_short}
use Rattle.std.specs.Prelude.{Result}
use Rattle.maskrom.specs.declared.PartStep.{PartStep}
use Rattle.maskrom.specs.declared.PartError.{PartError}
use Rattle.std.specs.declared.result.Result.TheVariants.{Ok, Err}
use Rattle.maskrom.specs.declared.PartError.TheVariants as part_error
use Rattle.maskrom.specs.declared.UploadStep.{UploadStep}
use Rattle.maskrom.specs.declared.UploadError.{UploadError}
use Rattle.maskrom.specs.declared.UploadError.TheVariants as upload_error
use Rattle.maskrom.specs.declared.ImageTooLong.{ImageTooLong}

-- the longest image
abbrev pub longest : ℕ
longest = 4294967295

-- image too long, already closed, lent data differs
abbrev pub too_long : ℕ
too_long = 25

abbrev pub closed_already : ℕ
closed_already = 26

-- "type 0x40, request 0xc, value 0, index the area"
abbrev pub control : ℕ → ℕ → Control
control area n = record { request_type = 0x40; request = 0xc; value = 0; index = area; size = n }

-- what a part that is not refused is told: how many bytes were taken, and the transfer where they filled the block
pub data Handed : Type 0 where
  took : ℕ → Handed
  filled : ℕ → Control → Handed

-- what a closing or whole-upload step that is not refused asks for
pub data Asks : Type 0 where
  writes : Control → Asks
  finish : Asks

-- the number of each refusal
abbrev pub part_error_number : PartError → ℕ
part_error_number part_error.OutputTooShort = 20
part_error_number part_error.AlreadyClosed = 26
part_error_number part_error.ImageTooLong = 25

abbrev pub upload_error_number : UploadError → ℕ
upload_error_number upload_error.OutputTooShort = 20
upload_error_number upload_error.ImageDiffers = 27

abbrev pub image_too_long_number : ImageTooLong → ℕ
image_too_long_number refusal = 25

unfoldable pub part_told : Result PartStep PartError → Told Handed
part_told (Ok (part.Taken n)) = given (took n)
part_told (Ok (part.WriteControl n c)) = given (filled n c)
part_told (Err part_error.OutputTooShort) = refused too_short []
part_told (Err part_error.AlreadyClosed) = refused closed_already []
part_told (Err part_error.ImageTooLong) = refused too_long []

unfoldable pub step_told : Result UploadStep UploadError → Told Asks
step_told (Ok (upload.WriteControl c)) = given (writes c)
step_told (Ok upload.Finished) = given finish
step_told (Err upload_error.OutputTooShort) = refused too_short []
step_told (Err upload_error.ImageDiffers) = refused differs []

unfoldable pub start_told : Result Unit ImageTooLong → Told Unit
start_told (Ok u) = given tt
start_told (Err e) = refused too_long []
