-- The outcomes as the code makes them, for the contracts of its private functions.
use Rattle.std.specs.Prelude.{ℕ, List}
use Rattle.protocol_bytes.specs.Signature.{no_signature}
use Rattle.protocol.specs.declared.CommandBlockParseError.{CommandBlockParseError}
use Rattle.mock_base.specs.declared.error.MockTransportError.{MockTransportError}
use Rattle.mock_base.specs.declared.error.MockTransportError.TheVariants.{CommandBlockError}
use Rattle.mock_table.specs.Turn.{session}
use Rattle.mock_table.specs.declared.session.CommandState.{CommandState}
use Rattle.mock_table.specs.declared.session.CommandState.TheVariants as state
use Rattle.mock_table.specs.declared.outcome.Effect.{Effect}
use Rattle.mock_table.specs.declared.outcome.Effect.TheVariants.{Nothing}
use Rattle.mock_table.specs.declared.outcome.Outcome.{Outcome}
use Rattle.std.specs.declared.result.Result.TheVariants.{Ok, Err}
use Rattle.std.specs.Prelude.{Option}
use Rattle.protocol_codes.specs.declared.ResetOpcode.{ResetOpcode}

-- a refusal of any row, and what a row settles on
abbrev pub refused_with : Option ResetOpcode → MockTransportError → Outcome
refused_with reset error =
    record { answer = record { result = Err error; signature = no_signature }; session = session state.None reset; effect = Nothing }

abbrev pub settled : CommandState → Option ResetOpcode → Effect → Outcome
settled state reset effect = record { answer = record { result = Ok tt; signature = no_signature }; session = session state reset; effect = effect }

-- a refusal of a command's bytes, with the signature beside it
abbrev pub block_refused : Option ResetOpcode → CommandBlockParseError → List ℕ → Outcome
block_refused reset error signature =
    record { answer = record { result = Err (CommandBlockError error); signature = signature }; session = session state.None reset; effect = Nothing }
