-- The one test is the one rule.
use mathlib.Core.Path.{refl}
use mathlib.Core.List.{[]}
use borrow.Author.Tests.{eq-eqb, ne_eqb}
use Rattle.promise.specs.Rules.{or_refuse}
use Rattle.mock_base.specs.Told.{error_values}
use Rattle.mock_base.specs.declared.error.MockTransportError.TheVariants.{UnexpectedRead}
use Rattle.mock_table.specs.Table.{status_turn}
use Rattle.mock_table.specs.declared.session.CommandState.TheVariants.{None}
use Rattle.mock_table.specs.declared.outcome.Effect.TheVariants.{Reply}
use Rattle.mock_table.specs.declared.outcome.ReplyKind.TheVariants.{Status}
use Rattle.mock_table.proofs.Meets.{refused_as, done_as}
use Rattle.mock_table.proofs.rows.Row.read_status.Goals as goal

pub returns-then-actual-reply_size : goal.returns-then-actual-reply_size
unfolding status_turn or_refuse error_values
returns-then-actual-reply_size c =
    let z = c.reply_size in
    let a = c.args in
    refused_as a.self.reset UnexpectedRead 54 [] refl c.refuse.ensures
    (rw (← z.ensures, ne_eqb a.actual z.result c.if-actual-reply_size.true) refl)

pub returns : goal.returns
unfolding status_turn or_refuse
returns c =
    let z = c.reply_size in
    let a = c.args in
    done_as None a.self.reset (Reply (Status a.command.tag a.status)) c.settle.ensures
    (rw (← z.ensures, eq-eqb a.actual z.result c.if-actual-reply_size.false) refl)
