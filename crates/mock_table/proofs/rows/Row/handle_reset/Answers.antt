-- The opcode is read as the definition reads it.
use mathlib.Core.Path.{◌≡◌, refl, ap, sym, ◌∙◌}
use mathlib.Core.List.{[], ◌∷◌}
use Rattle.promise.specs.Told.{given, refused}
use Rattle.protocol_codes.specs.Numbers.{reset_number, reset_opcodes}
use Rattle.protocol_codes.specs.declared.Status.TheVariants.{SUCCESS}
use Rattle.protocol_codes.specs.Reading.{reset_of, reset_read_told}
use Rattle.protocol_codes.proofs.Reading.{known_refused}
use Rattle.mock_base.specs.Told.{error_values}
use Rattle.mock_base.specs.declared.error.MockTransportError.TheVariants.{InvalidReset}
use Rattle.mock_table.specs.Table.{stored_reset}
use Rattle.mock_table.specs.declared.session.CommandState.TheVariants.{Status}
use Rattle.mock_table.specs.declared.outcome.Effect.TheVariants.{Nothing}
use Rattle.mock_table.proofs.Meets.{refused_as, done_as}
use Rattle.mock_table.proofs.rows.Row.handle_reset.Goals as goal
use Rattle.std.specs.declared.option.Option.TheVariants.{Some}

pub returns-in_default : goal.returns-in_default
unfolding stored_reset reset_read_told reset_of error_values
returns-in_default c =
    let a = c.args in
    let byte = a.command.cd_opcode in
    let read : reset_of byte ≡ refused 52 (byte ∷ []) =
    known_refused 52 reset_number reset_opcodes byte 52 (c.in_default.field-0.0 ∷ [])
    (sym c.try_from.ensures ∙ ap reset_read_told c.in_default.is) in
    refused_as a.self.reset (InvalidReset byte) 52 (byte ∷ []) refl c.refuse.ensures (rw read refl)

pub returns : goal.returns
unfolding stored_reset reset_read_told
returns c =
    let a = c.args in
    let read : reset_of a.command.cd_opcode ≡ given c.in-Ok.known =
    sym c.try_from.ensures ∙ ap reset_read_told c.in-Ok.is in
    done_as (Status a.command SUCCESS) (Some c.in-Ok.known) Nothing c.settle.ensures (rw read refl)
