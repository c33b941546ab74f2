-- The match is on the transaction, as the rows are.
use mathlib.Core.Path.{refl, ap, sym, subst}
use mathlib.Core.List.{[]}
use Rattle.mock_base.specs.Told.{error_values}
use Rattle.mock_base.specs.declared.error.MockTransportError.TheVariants.{UnexpectedWrite}
use Rattle.mock_table.specs.Turn.{OutcomeMeets}
use Rattle.mock_table.specs.Table.{write_row}
use Rattle.mock_table.specs.declared.session.CommandState.{CommandState}
use Rattle.mock_table.proofs.Meets.{refused_as}
use Rattle.mock_table.proofs.writing.write_outcome.Goals as goal

pub returns-in-None : goal.returns-in-None
unfolding write_row
returns-in-None c =
    let a = c.args in
    subst
    (λ (x : CommandState). OutcomeMeets c.start_command.result (write_row a.variety a.block_size x a.session.last_reset a.sectors a.«data».now))
    (sym c.in-None.is) c.start_command.ensures

pub returns-in-IO : goal.returns-in-IO
unfolding write_row
returns-in-IO c =
    let a = c.args in
    subst
    (λ (x : CommandState). OutcomeMeets c.write_io.result (write_row a.variety a.block_size x a.session.last_reset a.sectors a.«data».now))
    (sym c.in-IO.is) c.write_io.ensures

pub returns-in-Status : goal.returns-in-Status
unfolding write_row error_values
returns-in-Status c =
    let a = c.args in
    refused_as a.session.last_reset UnexpectedWrite 55 [] refl c.refuse.ensures
    (ap (λ (x : CommandState). write_row a.variety a.block_size x a.session.last_reset a.sectors a.«data».now) c.in-Status.is)
