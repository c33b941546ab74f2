-- The one test is the one rule.
use mathlib.Core.Path.{refl}
use mathlib.Core.List.{[], ◌∷◌}
use borrow.Author.Tests.{eq-eqb, ne_eqb}
use Rattle.protocol_codes.specs.declared.Status.TheVariants.{SUCCESS}
use Rattle.promise.specs.Rules.{or_refuse}
use Rattle.mock_base.specs.Told.{error_values}
use Rattle.mock_base.specs.declared.error.MockTransportError.TheVariants.{InvalidTransferLength}
use Rattle.mock_table.specs.Table.{reply_turn}
use Rattle.mock_table.specs.declared.session.CommandState.TheVariants.{Status}
use Rattle.mock_table.specs.declared.outcome.Effect.TheVariants.{Reply}
use Rattle.mock_table.proofs.Meets.{refused_as, done_as}
use Rattle.mock_table.proofs.rows.Row.copy_reply.Goals as goal

pub returns-then-actual-expected : goal.returns-then-actual-expected
unfolding reply_turn or_refuse error_values
returns-then-actual-expected c =
    let z = c.reply_size-expected in
    let a = c.args in
    refused_as a.self.reset (InvalidTransferLength z.result a.actual) 50 (z.result ∷ a.actual ∷ []) refl c.refuse.ensures
    (rw (← z.ensures, ne_eqb a.actual z.result c.if-actual-expected.true) refl)

pub returns : goal.returns
unfolding reply_turn or_refuse
returns c =
    let z = c.reply_size-expected in
    let a = c.args in
    done_as (Status a.command SUCCESS) a.self.reset (Reply a.reply) c.settle.ensures
    (rw (← z.ensures, eq-eqb a.actual z.result c.if-actual-expected.false) refl)
