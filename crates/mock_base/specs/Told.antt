-- Number and values for every answer of the stand-in.
use Rattle.std.specs.Prelude.{ℕ, ◌≡◌, List, [], ◌∷◌, eqb}
use Rattle.promise.specs.Told.{Told, given, refused}
use Rattle.promise.specs.Rules.{pick}
use Rattle.protocol_codes.specs.Numbers.{code_number}
use Rattle.protocol_bytes.specs.Signature.{no_signature, signature_in}
use Rattle.protocol.specs.CommandMeets.{command_error_number, command_error_values}
use Rattle.mock_base.specs.declared.error.MockTransportError.{MockTransportError}
use Rattle.mock_base.specs.declared.error.MockTransportError.TheVariants.{InvalidTransferLength, UnsupportedControl, InvalidReset, UnknownCommand, UnexpectedRead, UnexpectedWrite, CommandBlockError, OutOfRange, NoSlot, SlotFull, FlashSize, TooManySectors, ZeroBlockSize, UnalignedErase, StoreLength}
use Rattle.mock_base.specs.declared.error.MockAnswer.{MockAnswer}
use Rattle.std.specs.Prelude.{Result}
use Rattle.std.specs.declared.result.Result.TheVariants.{Ok, Err}

abbrev pub error_number : MockTransportError → ℕ
error_number (InvalidTransferLength expected actual) = 50
error_number (UnsupportedControl type request value) = 51
error_number (InvalidReset opcode) = 52
error_number (UnknownCommand code) = 53
error_number UnexpectedRead = 54
error_number UnexpectedWrite = 55
error_number (CommandBlockError error) = 56
error_number OutOfRange = 57
error_number NoSlot = 58
error_number SlotFull = 59
error_number (FlashSize n) = 60
error_number TooManySectors = 61
error_number ZeroBlockSize = 62
error_number UnalignedErase = 63
error_number StoreLength = 65

-- 56 tells the number of the block's refusal and its values; the second argument is the signature beside the error
unfoldable pub error_values : MockTransportError → List ℕ → List ℕ
error_values (InvalidTransferLength expected actual) signature = expected ∷ actual ∷ []
error_values (UnsupportedControl type request value) signature = type ∷ request ∷ value ∷ []
error_values (InvalidReset opcode) signature = opcode ∷ []
error_values (UnknownCommand code) signature = code_number code ∷ []
error_values UnexpectedRead signature = []
error_values UnexpectedWrite signature = []
error_values (CommandBlockError error) signature = command_error_number error ∷ command_error_values error signature
error_values OutOfRange signature = []
error_values NoSlot signature = []
error_values SlotFull signature = []
error_values (FlashSize n) signature = n ∷ []
error_values TooManySectors signature = []
error_values ZeroBlockSize signature = []
error_values UnalignedErase signature = []
error_values StoreLength signature = []

abbrev pub error_told : {A : Type 0} → MockTransportError → List ℕ → Told A
error_told error signature = refused (error_number error) (error_values error signature)

unfoldable pub result_told : Result Unit MockTransportError → List ℕ → Told Unit
result_told (Ok done) signature = given tt
result_told (Err error) signature = error_told error signature

-- the signature that 56 tells, zeros where anything else is told
unfoldable pub inner_signature : ℕ → List ℕ → List ℕ
inner_signature number [] = no_signature
inner_signature number (inner ∷ values) = pick (eqb number 56) (signature_in {A = Unit} 2 (refused inner values)) no_signature

unfoldable pub signature_beside : Told Unit → List ℕ
signature_beside (given done) = no_signature
signature_beside (refused number values) = inner_signature number values

-- an answer that tells what is right
pub record Answers (a : MockAnswer) (told : Told Unit) : Type 0 where
  pub tells : result_told a.result a.signature ≡ told
  pub signature : a.signature ≡ signature_beside told
