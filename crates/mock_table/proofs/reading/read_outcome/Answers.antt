-- The match is on the transaction, as the rows are.
use mathlib.Core.Path.{refl, ap, sym, subst}
use mathlib.Core.List.{[]}
use Rattle.mock_base.specs.Told.{error_values}
use Rattle.mock_base.specs.declared.error.MockTransportError.TheVariants.{UnexpectedRead}
use Rattle.mock_table.specs.Turn.{OutcomeMeets}
use Rattle.mock_table.specs.Table.{read_row}
use Rattle.mock_table.specs.declared.session.CommandState.{CommandState}
use Rattle.mock_table.proofs.Meets.{refused_as}
use Rattle.mock_table.proofs.reading.read_outcome.Goals as goal

pub returns-in-None : goal.returns-in-None
unfolding read_row error_values
returns-in-None c =
    let a = c.args in
    refused_as a.session.last_reset UnexpectedRead 54 [] refl c.refuse.ensures
    (ap (λ (x : CommandState). read_row a.variety x a.session.last_reset a.sectors a.actual) c.in-None.is)

pub returns-in-IO : goal.returns-in-IO
unfolding read_row
returns-in-IO c =
    let a = c.args in
    subst (λ (x : CommandState). OutcomeMeets c.read_io.result (read_row a.variety x a.session.last_reset a.sectors a.actual))
    (sym c.in-IO.is) c.read_io.ensures

pub returns-in-Status : goal.returns-in-Status
unfolding read_row
returns-in-Status c =
    let a = c.args in
    subst (λ (x : CommandState). OutcomeMeets c.read_status.result (read_row a.variety x a.session.last_reset a.sectors a.actual))
    (sym c.in-Status.is) c.read_status.ensures
