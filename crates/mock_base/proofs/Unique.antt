-- Number and values tell an answer whole, so two answers allowed by one contract are equal; and what an answer tells has its number.
use Prim.Native.Nat.{ℕ}
use mathlib.Core.Path.{◌≡◌, refl, ap, ap₂, sym, ◌∙◌}
use mathlib.Core.List.{List}
use lib.Dec.{eqb}
use lib.ListN.{get_or}
use Rattle.rule_number.specs.Number.{number_of}
use Rattle.promise.specs.Told.{Told, given, refused, number}
use Rattle.promise.specs.Rules.{pick}
use Rattle.protocol_codes.specs.Reading.{code_of}
use Rattle.protocol_codes.proofs.Back.{code_back}
use Rattle.protocol_codes.specs.declared.CommandCode.{CommandCode}
use Rattle.protocol_codes.specs.declared.CommandCode.TheVariants.{TestUnitReady}
use Rattle.protocol.specs.CommandMeets.{command_error_number, command_error_values}
use Rattle.protocol.specs.declared.CommandBlockParseError.{CommandBlockParseError}
use Rattle.protocol.specs.declared.CommandBlockParseError.TheVariants.{InvalidSignature, UnknownCommandCode, UnknownFlags, InvalidLength}
use Rattle.protocol_bytes.specs.Signature.{no_signature}
use Rattle.mock_base.specs.Flash.{size_told, out_of_range_number, range_told}
use Rattle.mock_base.specs.declared.range.FlashRange.{FlashRange}
use Rattle.mock_base.specs.Told.{error_number, error_values, result_told, Answers}
use Rattle.mock_base.specs.declared.error.MockTransportError.{MockTransportError}
use Rattle.mock_base.specs.declared.error.MockTransportError.TheVariants.{InvalidTransferLength, UnsupportedControl, InvalidReset, UnknownCommand, UnexpectedRead, UnexpectedWrite, CommandBlockError, OutOfRange, NoSlot, SlotFull, FlashSize, TooManySectors, ZeroBlockSize, UnalignedErase, StoreLength}
use Rattle.mock_base.specs.declared.error.MockAnswer.{MockAnswer}
use Rattle.mock_base.specs.declared.range.OutOfRange.{OutOfRange as Outside}
use Rattle.std.specs.Prelude.{Result}
use Rattle.std.specs.declared.result.Result.TheVariants.{Ok, Err}

code_in : Told CommandCode → CommandCode
code_in (given code) = code
code_in (refused number values) = TestUnitReady

inner_from : ℕ → ℕ → CommandBlockParseError
inner_from number value =
    pick (eqb number 1) (InvalidLength value) (pick (eqb number 2) InvalidSignature (pick (eqb number 3) (UnknownFlags value) (UnknownCommandCode value)))

-- the refusal whose number and first three values these are
unfoldable pub error_from : ℕ → ℕ → ℕ → ℕ → MockTransportError
unfolding code_in inner_from
error_from n a b c =
    pick (eqb n 50) (InvalidTransferLength a b) (pick (eqb n 51) (UnsupportedControl a b c) (pick (eqb n 52) (InvalidReset a)
    (pick (eqb n 53) (UnknownCommand (code_in (code_of a))) (pick (eqb n 54) UnexpectedRead (pick (eqb n 55) UnexpectedWrite
    (pick (eqb n 56) (CommandBlockError (inner_from a b)) (pick (eqb n 57) OutOfRange (pick (eqb n 58) NoSlot (pick (eqb n 59) SlotFull
    (pick (eqb n 60) (FlashSize a) (pick (eqb n 61) TooManySectors (pick (eqb n 62) ZeroBlockSize (pick (eqb n 63) UnalignedErase
    StoreLength)))))))))))))

abbrev error_in : ℕ → List ℕ → MockTransportError
error_in number values = error_from number (get_or values 0 0) (get_or values 1 0) (get_or values 2 0)

inner_from_lem : (error : CommandBlockParseError) (signature : List ℕ)
    → inner_from (command_error_number error) (get_or (command_error_values error signature) 0 0) ≡ error
unfolding inner_from command_error_number command_error_values
inner_from_lem (InvalidLength n) signature = refl
inner_from_lem InvalidSignature signature = refl
inner_from_lem (UnknownFlags byte) signature = refl
inner_from_lem (UnknownCommandCode byte) signature = refl

error_from_lem : (error : MockTransportError) (signature : List ℕ) → error_in (error_number error) (error_values error signature) ≡ error
unfolding error_from error_values code_in
error_from_lem (InvalidTransferLength expected actual) signature = refl
error_from_lem (UnsupportedControl type request value) signature = refl
error_from_lem (InvalidReset opcode) signature = refl
error_from_lem (UnknownCommand code) signature = ap (λ (t : Told CommandCode). UnknownCommand (code_in t)) (code_back code)
error_from_lem UnexpectedRead signature = refl
error_from_lem UnexpectedWrite signature = refl
error_from_lem (CommandBlockError error) signature = ap CommandBlockError (inner_from_lem error signature)
error_from_lem OutOfRange signature = refl
error_from_lem NoSlot signature = refl
error_from_lem SlotFull signature = refl
error_from_lem (FlashSize n) signature = refl
error_from_lem TooManySectors signature = refl
error_from_lem ZeroBlockSize signature = refl
error_from_lem UnalignedErase signature = refl
error_from_lem StoreLength signature = refl

unfoldable pub result_from : Told Unit → Result Unit MockTransportError
result_from (given done) = Ok tt
result_from (refused number values) = Err (error_in number values)

pub result_from_lem : (result : Result Unit MockTransportError) (signature : List ℕ) → result_from (result_told result signature) ≡ result
unfolding result_from result_told
result_from_lem (Ok done) signature = refl
result_from_lem (Err error) signature = ap Err (error_from_lem error signature)

pub answers_unique : (a b : MockAnswer) (told : Told Unit) → Answers a told → Answers b told → a ≡ b
answers_unique a b told m n =
    let results : a.result ≡ b.result =
    sym (result_from_lem a.result a.signature) ∙ ap result_from (m.tells ∙ sym n.tells) ∙ result_from_lem b.result b.signature in
    ap₂ (λ (r : Result Unit MockTransportError) (s : List ℕ). record { result = r; signature = s }) results (m.signature ∙ sym n.signature)

unfoldable pub size_from : Told ℕ → Result ℕ MockTransportError
size_from (given sectors) = Ok sectors
size_from (refused number values) = Err (error_in number values)

pub size_from_lem : (size : Result ℕ MockTransportError) → size_from (size_told size) ≡ size
unfolding size_from size_told
size_from_lem (Ok sectors) = refl
size_from_lem (Err error) = ap Err (error_from_lem error no_signature)

pub size_unique : (a b : Result ℕ MockTransportError) (told : Told ℕ) → size_told a ≡ told → size_told b ≡ told → a ≡ b
size_unique a b told m n = sym (size_from_lem a) ∙ ap size_from (m ∙ sym n) ∙ size_from_lem b

range_from : Told FlashRange → Result FlashRange Outside
range_from (given range) = Ok range
range_from (refused number values) = Err (record {})

range_from_lem : (answer : Result FlashRange Outside) → range_from (range_told answer) ≡ answer
unfolding range_from range_told
range_from_lem (Ok range) = refl
range_from_lem (Err out) = refl

pub range_unique : (a b : Result FlashRange Outside) (told : Told FlashRange) → range_told a ≡ told → range_told b ≡ told → a ≡ b
range_unique a b told m n = sym (range_from_lem a) ∙ ap range_from (m ∙ sym n) ∙ range_from_lem b

-- the number that the rules have for each of these answers
pub result_number : (result : Result Unit MockTransportError) (signature : List ℕ) → number (result_told result signature) ≡ number_of error_number result
unfolding number result_told
result_number (Ok done) signature = refl
result_number (Err error) signature = refl

pub size_number : (size : Result ℕ MockTransportError) → number (size_told size) ≡ number_of error_number size
unfolding number size_told
size_number (Ok sectors) = refl
size_number (Err error) = refl

pub range_number : (answer : Result FlashRange Outside) → number (range_told answer) ≡ number_of out_of_range_number answer
unfolding number range_told
range_number (Ok range) = refl
range_number (Err out) = refl
