-- Number and values for every answer of reading a status.
use Rattle.std.specs.Prelude.{ℕ, ◌≡◌, List, [], ◌∷◌}
use Rattle.promise.specs.Told.{Told, given, refused}
use Rattle.protocol_status.specs.declared.report.CommandStatus.{CommandStatus}
use Rattle.protocol_status.specs.declared.report.CommandStatusParseError.{CommandStatusParseError}
use Rattle.protocol_status.specs.declared.report.CommandStatusParseError.TheVariants.{InvalidSignature, InvalidLength, InvalidStatus}
use Rattle.protocol_bytes.specs.declared.signature.Parse.{Parse}
use Rattle.protocol_bytes.specs.Signature.{signature_in}
use Rattle.std.specs.Prelude.{Result}
use Rattle.std.specs.declared.result.Result.TheVariants.{Ok, Err}

abbrev pub status_error_number : CommandStatusParseError → ℕ
status_error_number (InvalidLength n) = 5
status_error_number InvalidSignature = 6
status_error_number (InvalidStatus byte) = 7

-- the second argument is the signature beside the error
unfoldable pub status_error_told : CommandStatusParseError → List ℕ → Told CommandStatus
status_error_told (InvalidLength n) signature = refused 5 (n ∷ [])
status_error_told InvalidSignature signature = refused 6 signature
status_error_told (InvalidStatus byte) signature = refused 7 (byte ∷ [])

unfoldable pub status_told : Result CommandStatus CommandStatusParseError → List ℕ → Told CommandStatus
status_told (Ok s) signature = given s
status_told (Err error) signature = status_error_told error signature

-- a reader that answers r where `told` is right
pub record StatusMeets (r : Parse CommandStatus CommandStatusParseError) (told : Told CommandStatus) : Type 0 where
  pub tells : status_told r.answer r.signature ≡ told
  pub signature : r.signature ≡ signature_in 6 told
