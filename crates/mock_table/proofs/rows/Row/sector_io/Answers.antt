-- The range and then the length are tested in the order of the rules; a range that is within is the one that the command names.
use Prim.Native.Nat.{◌*◌}
use mathlib.Core.Path.{◌≡◌, refl, ap, sym, ◌∙◌}
use mathlib.Core.List.{[], ◌∷◌}
use borrow.Author.Tests.{eq-eqb, ne_eqb}
use Rattle.protocol_codes.specs.declared.Status.TheVariants.{SUCCESS}
use Rattle.protocol_bytes.specs.Sector.{sector_size}
use Rattle.promise.specs.Rules.{or_refuse}
use Rattle.mock_base.specs.Told.{error_values}
use Rattle.mock_base.specs.Flash.{range_told}
use Rattle.mock_base.specs.declared.error.MockTransportError.TheVariants.{OutOfRange, InvalidTransferLength}
use Rattle.mock_base.proofs.Fitting.{within, outside}
use Rattle.mock_table.specs.Ways.{moved_by}
use Rattle.mock_table.specs.Table.{range_of, sector_turn}
use Rattle.mock_table.specs.declared.session.CommandState.TheVariants.{Status}
use Rattle.mock_table.proofs.Meets.{refused_as, done_as}
use Rattle.mock_table.proofs.rows.Row.sector_io.Goals as goal

pub returns-in_default : goal.returns-in_default
unfolding sector_turn or_refuse error_values
returns-in_default c =
    let a = c.args in
    let far = outside a.self.sectors a.command.cd_address a.command.cd_length
    (sym c.flash_range.ensures ∙ ap range_told c.in_default.is) in
    refused_as a.self.reset OutOfRange 57 [] refl c.refuse.ensures (rw far refl)

pub returns-then-actual-expected : goal.returns-then-actual-expected
unfolding sector_turn or_refuse error_values
returns-then-actual-expected c =
    let a = c.args in
    let expected = a.command.cd_length * sector_size in
    let fit = within a.self.sectors a.command.cd_address a.command.cd_length c.in-Ok.range
    (sym c.flash_range.ensures ∙ ap range_told c.in-Ok.is) in
    refused_as a.self.reset (InvalidTransferLength expected a.actual) 50 (expected ∷ a.actual ∷ []) refl c.refuse-then-actual-expected.ensures
    (rw (fit.0, ne_eqb a.actual expected c.if-actual-expected.true) refl)

pub returns : goal.returns
unfolding sector_turn or_refuse
returns c =
    let a = c.args in
    let expected = a.command.cd_length * sector_size in
    let fit = within a.self.sectors a.command.cd_address a.command.cd_length c.in-Ok.range
    (sym c.flash_range.ensures ∙ ap range_told c.in-Ok.is) in
    let moved : c.moved_by.result ≡ moved_by a.self.variety a.direction (range_of a.command) =
    c.moved_by.ensures ∙ ap (moved_by a.self.variety a.direction) fit.1 in
    done_as (Status a.command SUCCESS) a.self.reset (moved_by a.self.variety a.direction (range_of a.command))
    (c.settle.ensures ∙ rw moved refl) (rw (fit.0, eq-eqb a.actual expected c.if-actual-expected.false) refl)
