-- Direction and code are the first two rules, in this order; what follows is over the sectors.
use mathlib.Core.Path.{refl, ap, sym, ◌∙◌}
use mathlib.Core.List.{[]}
use Rattle.promise.specs.Rules.{or_refuse}
use Rattle.mock_base.specs.Told.{error_values}
use Rattle.mock_base.specs.declared.error.MockTransportError.TheVariants.{UnexpectedWrite}
use Rattle.mock_table.specs.Turn.{is_out}
use Rattle.mock_table.specs.Table.{write_io_turn}
use Rattle.mock_table.proofs.Meets.{refused_as}
use Rattle.mock_table.proofs.rows.Row.write_io.Goals as goal

pub returns-in_default : goal.returns-in_default
unfolding write_io_turn or_refuse is_out error_values
returns-in_default c =
    refused_as c.args.self.reset UnexpectedWrite 55 [] refl c.refuse.ensures
    (rw (ap is_out c.in_default.is) refl)

pub returns-then-not-has_code : goal.returns-then-not-has_code
unfolding write_io_turn or_refuse is_out error_values
returns-then-not-has_code c =
    let h = c.has_code in
    refused_as c.args.self.reset UnexpectedWrite 55 [] refl c.refuse-then-not-has_code.ensures
    (rw (ap is_out c.in-Out.is, sym h.ensures ∙ c.if-not-has_code.true) refl)

pub returns : goal.returns
unfolding write_io_turn or_refuse is_out
returns c =
    let h = c.has_code in
    rw (ap is_out c.in-Out.is, sym h.ensures ∙ c.if-not-has_code.false)
    c.sector_io.ensures
