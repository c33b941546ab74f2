-- Number and values for every answer of reading a command.
use Rattle.std.specs.Prelude.{ℕ, ◌≡◌, List, [], ◌∷◌}
use Rattle.promise.specs.Told.{Told, given, refused}
use Rattle.protocol.specs.declared.CommandBlock.{CommandBlock}
use Rattle.protocol.specs.declared.CommandBlockParseError.{CommandBlockParseError}
use Rattle.protocol.specs.declared.CommandBlockParseError.TheVariants.{InvalidSignature, UnknownCommandCode, UnknownFlags, InvalidLength}
use Rattle.protocol_bytes.specs.declared.signature.Parse.{Parse}
use Rattle.protocol_bytes.specs.Signature.{signature_in}
use Rattle.std.specs.Prelude.{Result}
use Rattle.std.specs.declared.result.Result.TheVariants.{Ok, Err}

unfoldable pub command_error_number : CommandBlockParseError → ℕ
command_error_number (InvalidLength n) = 1
command_error_number InvalidSignature = 2
command_error_number (UnknownFlags byte) = 3
command_error_number (UnknownCommandCode byte) = 4

-- the second argument is the signature beside the error
unfoldable pub command_error_values : CommandBlockParseError → List ℕ → List ℕ
command_error_values (InvalidLength n) signature = n ∷ []
command_error_values InvalidSignature signature = signature
command_error_values (UnknownFlags byte) signature = byte ∷ []
command_error_values (UnknownCommandCode byte) signature = byte ∷ []

unfoldable pub command_told : Result CommandBlock CommandBlockParseError → List ℕ → Told CommandBlock
command_told (Ok b) signature = given b
command_told (Err error) signature = refused (command_error_number error) (command_error_values error signature)

-- a reader that answers r where `told` is right
pub record CommandMeets (r : Parse CommandBlock CommandBlockParseError) (told : Told CommandBlock) : Type 0 where
  pub tells : command_told r.answer r.signature ≡ told
  pub signature : r.signature ≡ signature_in 2 told
