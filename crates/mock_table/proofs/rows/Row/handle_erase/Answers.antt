-- The range and then the blocks are tested in the order of the rules; a range that is within is the one that the command names.
use mathlib.Core.Path.{refl, ap, sym, ◌∙◌}
use mathlib.Core.List.{[]}
use Rattle.protocol_codes.specs.declared.Status.TheVariants.{SUCCESS}
use Rattle.promise.specs.Rules.{or_refuse}
use Rattle.mock_base.specs.Told.{error_values}
use Rattle.mock_base.specs.Flash.{range_told}
use Rattle.mock_base.specs.declared.error.MockTransportError.TheVariants.{OutOfRange, UnalignedErase}
use Rattle.mock_base.specs.declared.range.FlashRange.{FlashRange}
use Rattle.mock_base.proofs.Fitting.{within, outside}
use Rattle.mock_table.specs.Code.{settled}
use Rattle.mock_table.specs.Table.{range_of, erase_rules, erase_turn}
use Rattle.mock_table.specs.declared.session.CommandState.TheVariants.{Status}
use Rattle.mock_table.specs.declared.outcome.Effect.TheVariants.{Fill}
use Rattle.mock_table.proofs.Meets.{refused_as, done_as}
use Rattle.mock_table.proofs.rows.Row.handle_erase.Goals as goal

pub returns-in_default : goal.returns-in_default
unfolding erase_turn erase_rules or_refuse error_values
returns-in_default c =
    let a = c.args in
    let far = outside a.self.sectors a.command.cd_address a.command.cd_length
    (sym c.flash_range.ensures ∙ ap range_told c.in_default.is) in
    refused_as a.self.reset OutOfRange 57 [] refl c.refuse.ensures (rw far refl)

pub returns-then-splits : goal.returns-then-splits
unfolding erase_turn erase_rules or_refuse error_values
returns-then-splits c =
    let a = c.args in
    let fit = within a.self.sectors a.command.cd_address a.command.cd_length c.in-Ok.range
    (sym c.flash_range.ensures ∙ ap range_told c.in-Ok.is) in
    refused_as a.self.reset UnalignedErase 63 [] refl c.refuse-then-splits.ensures
    (rw (fit.0, sym c.splits.ensures ∙ c.if-splits.true) refl)

pub returns : goal.returns
unfolding erase_turn erase_rules or_refuse
returns c =
    let a = c.args in
    let fit = within a.self.sectors a.command.cd_address a.command.cd_length c.in-Ok.range
    (sym c.flash_range.ensures ∙ ap range_told c.in-Ok.is) in
    done_as (Status a.command SUCCESS) a.self.reset (Fill (range_of a.command))
    (c.settle.ensures ∙ ap (λ (x : FlashRange). settled (Status a.command SUCCESS) a.self.reset (Fill x)) fit.1)
    (rw (fit.0, sym c.splits.ensures ∙ c.if-splits.false) refl)
