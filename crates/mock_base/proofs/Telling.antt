-- The answers that the code makes tell what they should.
use mathlib.Core.Path.{◌≡◌, refl, ap, sym, ◌∙◌}
use Prim.Native.Nat.{ℕ}
use Rattle.promise.specs.Told.{Told, given, and_then}
use Rattle.protocol_bytes.specs.Signature.{no_signature, signature_in}
use Rattle.protocol.specs.CommandMeets.{command_error_number, command_error_values}
use Rattle.protocol.specs.declared.CommandBlockParseError.TheVariants.{InvalidSignature, UnknownCommandCode, UnknownFlags, InvalidLength}
use Rattle.mock_base.specs.Told.{error_told, error_values, result_told, inner_signature, signature_beside, Answers}
use Rattle.mock_base.specs.Flash.{size_told, size_done}
use Rattle.mock_base.specs.declared.error.MockTransportError.{MockTransportError}
use Rattle.mock_base.specs.declared.error.MockTransportError.TheVariants.{InvalidTransferLength, UnsupportedControl, InvalidReset, UnknownCommand, UnexpectedRead, UnexpectedWrite, CommandBlockError, OutOfRange, NoSlot, SlotFull, FlashSize, TooManySectors, ZeroBlockSize, UnalignedErase, StoreLength}
use Rattle.std.specs.declared.result.Result.TheVariants.{Ok, Err}
use Rattle.std.specs.Prelude.{Result, MatchResult, IsOkAnd}

-- beside zeros no refusal tells a signature but zeros
beside_error : (error : MockTransportError) → signature_beside (error_told error no_signature) ≡ no_signature
unfolding signature_beside inner_signature error_values signature_in command_error_number command_error_values
beside_error (InvalidTransferLength expected actual) = refl
beside_error (UnsupportedControl type request value) = refl
beside_error (InvalidReset opcode) = refl
beside_error (UnknownCommand code) = refl
beside_error UnexpectedRead = refl
beside_error UnexpectedWrite = refl
beside_error (CommandBlockError (InvalidLength n)) = refl
beside_error (CommandBlockError InvalidSignature) = refl
beside_error (CommandBlockError (UnknownFlags byte)) = refl
beside_error (CommandBlockError (UnknownCommandCode byte)) = refl
beside_error OutOfRange = refl
beside_error NoSlot = refl
beside_error SlotFull = refl
beside_error (FlashSize n) = refl
beside_error TooManySectors = refl
beside_error ZeroBlockSize = refl
beside_error UnalignedErase = refl
beside_error StoreLength = refl

pub answers_error : (error : MockTransportError) (told : Told Unit) → error_told error no_signature ≡ told
    → Answers (record { result = Err error; signature = no_signature }) told
unfolding result_told
answers_error error told e = record { tells = e; signature = sym (beside_error error) ∙ ap signature_beside e }

pub answers_done : Answers (record { result = Ok tt; signature = no_signature }) (given tt)
unfolding result_told signature_beside
answers_done = record { tells = refl; signature = refl }

-- the answer to a length that is whole sectors, and to one that is not
pub size_answered : (P : ℕ → Unit → Type 0) (found : Result ℕ MockTransportError) (answer : Result Unit MockTransportError)
    → MatchResult found (λ x. IsOkAnd answer (P x)) (λ e. answer ≡ Err e) → Answers (record { result = answer; signature = no_signature }) (size_done found)
unfolding size_done size_told and_then
size_answered P (Ok sectors) (Ok done) e = answers_done
size_answered P (Ok sectors) (Err error) e = absurd e
size_answered P (Err error) answer e = rw e (answers_error error (error_told error no_signature) refl)
