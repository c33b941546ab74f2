-- When an outcome comes to a turn: a refusal with its number and values, or what was done.
use Prim.Native.Nat.{ℕ}
use mathlib.Core.Path.{◌≡◌, refl, sym, ◌∙◌}
use mathlib.Core.List.{List}
use Rattle.promise.specs.Told.{Told, refused}
use Rattle.protocol_bytes.specs.Signature.{no_signature, signature_in}
use Rattle.protocol.specs.CommandMeets.{CommandMeets, command_told, command_error_number, command_error_values}
use Rattle.protocol.specs.declared.CommandBlock.{CommandBlock}
use Rattle.protocol.specs.declared.CommandBlockParseError.{CommandBlockParseError}
use Rattle.protocol_bytes.specs.declared.signature.Parse.{Parse}
use Rattle.mock_base.proofs.Telling.{answers_error, answers_done}
use Rattle.mock_base.specs.Told.{error_told, error_values, result_told, inner_signature, signature_beside}
use Rattle.mock_base.specs.declared.cells.Variety.{Variety}
use Rattle.mock_base.specs.declared.error.MockTransportError.{MockTransportError}
use Rattle.mock_table.specs.Turn.{Turn, refuses, done, OutcomeMeets}
use Rattle.mock_table.specs.Code.{refused_with, settled, block_refused}
use Rattle.mock_table.specs.Table.{start_turn}
use Rattle.mock_table.specs.declared.session.CommandState.{CommandState}
use Rattle.mock_table.specs.declared.outcome.Effect.{Effect}
use Rattle.mock_table.specs.declared.outcome.Outcome.{Outcome}
use Rattle.std.specs.declared.result.Result.TheVariants.{Err}
use Rattle.std.specs.Prelude.{Option}
use Rattle.protocol_codes.specs.declared.ResetOpcode.{ResetOpcode}

pub refused_as : {r : Outcome} {t : Turn} (last : Option ResetOpcode) (error : MockTransportError) (number : ℕ) (values : List ℕ)
    → error_told {A = Unit} error no_signature ≡ refused number values → r ≡ refused_with last error → t ≡ refuses last number values → OutcomeMeets r t
unfolding refuses
refused_as last error number values told e f =
    rw (e, f) (record { tells = answers_error error (refused number values) told; next = refl; effect = refl })

pub done_as : {r : Outcome} {t : Turn} (state : CommandState) (last : Option ResetOpcode) (effect : Effect)
    → r ≡ settled state last effect → t ≡ done state last effect → OutcomeMeets r t
unfolding done
done_as state last effect e f = rw (e, f) (record { tells = answers_done; next = refl; effect = refl })

-- 56: bytes that are no command
pub block_refused_lem : {r : Outcome} (v : Variety) (block : ℕ) (parse : Parse CommandBlock CommandBlockParseError) (told : Told CommandBlock) → CommandMeets parse told → (error : CommandBlockParseError)
    → parse.answer ≡ Err error → (last : Option ResetOpcode) (sectors : ℕ) → r ≡ block_refused last error parse.signature
    → OutcomeMeets r (start_turn v block told last sectors)
unfolding start_turn refuses result_told error_values signature_beside inner_signature command_told signature_in
block_refused_lem v block parse told m error a last sectors e =
    let t : told ≡ refused (command_error_number error) (command_error_values error parse.signature) = sym m.tells ∙ rw a refl in
    rw (e, t)
    (record { tells = record { tells = refl; signature = m.signature ∙ rw t refl }; next = refl; effect = refl })
