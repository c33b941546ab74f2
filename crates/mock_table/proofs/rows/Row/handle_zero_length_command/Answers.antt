-- By the code, as the definition has it.
use mathlib.Core.Path.{refl, ap, sym, ◌∙◌}
use mathlib.Core.List.{[], ◌∷◌}
use Rattle.protocol_codes.specs.Numbers.{code_number}
use Rattle.protocol_codes.specs.declared.Status as told
use Rattle.mock_base.specs.Told.{error_values}
use Rattle.mock_base.specs.declared.error.MockTransportError.TheVariants.{UnknownCommand}
use Rattle.mock_table.specs.Code.{settled}
use Rattle.mock_table.specs.Ways.{switched}
use Rattle.mock_table.specs.Table.{zero_length_turn}
use Rattle.mock_table.specs.declared.session.CommandState.TheVariants.{Status}
use Rattle.mock_table.specs.declared.outcome.Effect.TheVariants.{Nothing}
use Rattle.mock_table.proofs.Meets.{refused_as, done_as}
use Rattle.mock_table.proofs.rows.Row.handle_zero_length_command.Goals as goal

pub returns-then-is_erase : goal.returns-then-is_erase
unfolding zero_length_turn
returns-then-is_erase c = rw (sym c.is_erase.ensures ∙ c.if-is_erase.true) c.handle_erase.ensures

pub returns-then-has_code : goal.returns-then-has_code
unfolding zero_length_turn
returns-then-has_code c =
    rw (
      sym c.is_erase.ensures ∙ c.if-is_erase.false,
      sym c.has_code.ensures ∙ c.if-has_code.true,
    ) c.handle_reset.ensures

pub returns-then-switches : goal.returns-then-switches
unfolding zero_length_turn
returns-then-switches c =
    let a = c.args in
    done_as (Status a.command (switched a.command.cd_opcode)) a.self.reset Nothing
    (c.settle.ensures ∙ ap (λ (x : told.Status). settled (Status a.command x) a.self.reset Nothing) c.switched-status.ensures)
    (rw (
      sym c.is_erase.ensures ∙ c.if-is_erase.false,
      sym c.has_code.ensures ∙ c.if-has_code.false,
      sym c.switches.ensures ∙ c.if-switches.true,
    ) refl)

pub returns : goal.returns
unfolding zero_length_turn error_values
returns c =
    let a = c.args in
    refused_as a.self.reset (UnknownCommand a.command.cd_code) 53 (code_number a.command.cd_code ∷ []) refl c.refuse.ensures
    (rw (
      sym c.is_erase.ensures ∙ c.if-is_erase.false,
      sym c.has_code.ensures ∙ c.if-has_code.false,
      sym c.switches.ensures ∙ c.if-switches.false,
    ) refl)
