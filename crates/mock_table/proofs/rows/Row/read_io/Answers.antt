-- The direction is the first rule; what follows is by the code.
use mathlib.Core.Path.{refl, ap}
use mathlib.Core.List.{[]}
use Rattle.promise.specs.Rules.{or_refuse}
use Rattle.mock_base.specs.Told.{error_values}
use Rattle.mock_base.specs.declared.error.MockTransportError.TheVariants.{UnexpectedRead}
use Rattle.mock_table.specs.Turn.{is_in}
use Rattle.mock_table.specs.Table.{read_io_turn}
use Rattle.mock_table.proofs.Meets.{refused_as}
use Rattle.mock_table.proofs.rows.Row.read_io.Goals as goal

pub returns-in_default : goal.returns-in_default
unfolding read_io_turn or_refuse is_in error_values
returns-in_default c =
    refused_as c.args.self.reset UnexpectedRead 54 [] refl c.refuse.ensures
    (rw (ap is_in c.in_default.is) refl)

pub returns : goal.returns
unfolding read_io_turn or_refuse is_in
returns c = rw (ap is_in c.in-In.is) c.read_code.ensures
