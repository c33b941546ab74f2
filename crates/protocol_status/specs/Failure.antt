-- Number and values for every refusal of an operation's finish.
use Rattle.std.specs.Prelude.{ℕ, List, [], ◌∷◌, eqb}
use Rattle.promise.specs.Told.{Told, given, refused}
use Rattle.promise.specs.Rules.{pick}
use Rattle.protocol_status.specs.declared.failure.UsbOperationError.{UsbOperationError}
use Rattle.protocol_status.specs.declared.failure.UsbOperationError.TheVariants.{TagMismatch, InvalidStatusSignature, InvalidStatusStatus, InvalidStatusLength, ReplyParseFailure, FailedStatus}

unfoldable pub failure_number : UsbOperationError → ℕ
failure_number TagMismatch = 10
failure_number InvalidStatusSignature = 11
failure_number (InvalidStatusStatus byte) = 12
failure_number InvalidStatusLength = 13
failure_number ReplyParseFailure = 14
failure_number FailedStatus = 15

-- the second argument is the signature beside the error
unfoldable pub failure_values : UsbOperationError → List ℕ → List ℕ
failure_values TagMismatch signature = []
failure_values InvalidStatusSignature signature = signature
failure_values (InvalidStatusStatus byte) signature = byte ∷ []
failure_values InvalidStatusLength signature = []
failure_values ReplyParseFailure signature = []
failure_values FailedStatus signature = []

abbrev pub failure_told : {A : Type 0} → UsbOperationError → List ℕ → Told A
failure_told error signature = refused (failure_number error) (failure_values error signature)

-- 11, 12, 13 at a finish, from 6, 7, 5; reading a status is refused by no other number (`parse_refusals`), and such a refusal would stay as it is
unfoldable pub at_finish : {A : Type 0} → Told A → Told A
at_finish (given s) = given s
at_finish (refused n values) =
    pick (eqb n 6) (refused 11 values) (pick (eqb n 7) (refused 12 values) (pick (eqb n 5) (refused 13 []) (refused n values)))
