-- Two answers that a contract allows are equal: each is read off what it tells.
use Prim.Native.Nat.{ℕ}
use mathlib.Core.Path.{◌≡◌, refl, ap, ap₂, sym, ◌∙◌}
use mathlib.Core.List.{List}
use lib.Dec.{eqb}
use lib.ListN.{get_or}
use Rattle.promise.specs.Told.{Told, given, refused, number}
use Rattle.promise.specs.Rules.{pick}
use Rattle.protocol_status.specs.declared.report.CommandStatus.{CommandStatus}
use Rattle.protocol_status.specs.declared.report.CommandStatusParseError.TheVariants.{InvalidSignature, InvalidLength, InvalidStatus}
use Rattle.protocol_bytes.specs.declared.signature.Parse.{Parse}
use Rattle.protocol_status.specs.declared.report.CommandStatusParseError.{CommandStatusParseError}
use Rattle.protocol_status.specs.declared.failure.UsbOperationError.{UsbOperationError}
use Rattle.protocol_status.specs.declared.failure.UsbOperationError.TheVariants.{TagMismatch, InvalidStatusSignature, InvalidStatusStatus, InvalidStatusLength, ReplyParseFailure, FailedStatus}
use Rattle.rule_number.specs.Number.{number_of}
use Rattle.protocol_status.specs.StatusMeets.{status_error_number, status_error_told, status_told, StatusMeets}
use Rattle.protocol_status.specs.Failure.{failure_number, failure_values, failure_told}
use Rattle.std.specs.Prelude.{Result}
use Rattle.std.specs.declared.result.Result.TheVariants.{Ok, Err}

abbrev answer_of : Told CommandStatus → Result CommandStatus CommandStatusParseError
answer_of (given s) = Ok s
answer_of (refused n values) =
    Err (pick (eqb n 5) (InvalidLength (get_or values 0 0)) (pick (eqb n 6) InvalidSignature (InvalidStatus (get_or values 0 0))))

answer_of_lem : (a : Result CommandStatus CommandStatusParseError) (signature : List ℕ) → answer_of (status_told a signature) ≡ a
unfolding status_told status_error_told
answer_of_lem (Ok s) signature = refl
answer_of_lem (Err (InvalidLength n)) signature = refl
answer_of_lem (Err InvalidSignature) signature = refl
answer_of_lem (Err (InvalidStatus byte)) signature = refl

pub status_unique : (told : Told CommandStatus) (r s : Parse CommandStatus CommandStatusParseError) → StatusMeets r told → StatusMeets s told → r ≡ s
status_unique told r s p q =
    let answers : r.answer ≡ s.answer =
    sym (answer_of_lem r.answer r.signature) ∙ ap answer_of (p.tells ∙ sym q.tells) ∙ answer_of_lem s.answer s.signature in
    ap₂ (λ (a : Result CommandStatus CommandStatusParseError) (g : List ℕ). record { answer = a; signature = g }) answers (p.signature ∙ sym q.signature)

abbrev failure_of : Told CommandStatus → UsbOperationError
failure_of (given s) = FailedStatus
failure_of (refused n values) =
    pick (eqb n 10) TagMismatch (pick (eqb n 11) InvalidStatusSignature (pick (eqb n 12) (InvalidStatusStatus (get_or values 0 0))
    (pick (eqb n 13) InvalidStatusLength (pick (eqb n 14) ReplyParseFailure FailedStatus))))

failure_of_lem : (e : UsbOperationError) (signature : List ℕ) → failure_of (failure_told e signature) ≡ e
unfolding failure_number failure_values
failure_of_lem TagMismatch signature = refl
failure_of_lem InvalidStatusSignature signature = refl
failure_of_lem (InvalidStatusStatus byte) signature = refl
failure_of_lem InvalidStatusLength signature = refl
failure_of_lem ReplyParseFailure signature = refl
failure_of_lem FailedStatus signature = refl

-- what a refusal of a finish tells names the refusal
pub failure_unique : (signature : List ℕ) (told : Told CommandStatus) (e f : UsbOperationError)
    → failure_told e signature ≡ told → failure_told f signature ≡ told → e ≡ f
failure_unique signature told e f p q = sym (failure_of_lem e signature) ∙ ap failure_of (p ∙ sym q) ∙ failure_of_lem f signature

-- the number of what is read is the number of what it tells
pub status_answer_number : (r : Result CommandStatus CommandStatusParseError) (signature : List ℕ)
    → number (status_told r signature) ≡ number_of status_error_number r
unfolding number status_told status_error_told
status_answer_number (Ok s) signature = refl
status_answer_number (Err (InvalidLength n)) signature = refl
status_answer_number (Err InvalidSignature) signature = refl
status_answer_number (Err (InvalidStatus byte)) signature = refl
