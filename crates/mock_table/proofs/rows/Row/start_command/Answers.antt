-- What the parse tells is what the definition goes by.
use mathlib.Core.Path.{◌≡◌, refl, ap, sym, ◌∙◌}
use borrow.Author.Tests.{eq-eqb, ne_eqb}
use Rattle.promise.specs.Told.{Told, given}
use Rattle.protocol.specs.CommandBytes.{read_command}
use Rattle.protocol.specs.CommandMeets.{CommandMeets, command_told}
use Rattle.protocol.specs.declared.CommandBlock.{CommandBlock}
use Rattle.protocol_bytes.specs.declared.signature.Parse.{Parse}
use Rattle.protocol.specs.declared.CommandBlockParseError.{CommandBlockParseError}
use Rattle.mock_table.specs.Table.{start_turn}
use Rattle.mock_table.specs.declared.session.CommandState.TheVariants.{IO}
use Rattle.mock_table.specs.declared.outcome.Effect.TheVariants.{Nothing}
use Rattle.mock_table.proofs.Meets.{done_as, block_refused_lem}
use Rattle.mock_table.proofs.rows.Row.start_command.Goals as goal
use Rattle.std.specs.Prelude.{Result}
use Rattle.std.specs.declared.result.Result.TheVariants.{Ok}

-- the bytes are a command
read_as : (r : Parse CommandBlock CommandBlockParseError) (t : Told CommandBlock) → CommandMeets r t → (command : CommandBlock) → r.answer ≡ Ok command → t ≡ given command
unfolding command_told
read_as r t m command is = sym m.tells ∙ ap (λ (x : Result CommandBlock CommandBlockParseError). command_told x r.signature) is

pub returns-in-Err : goal.returns-in-Err
returns-in-Err c =
    let a = c.args in
    block_refused_lem a.self.variety a.block_size c.from_bytes-answer.result (read_command a.«data».now) c.from_bytes-answer.ensures c.in-Err.error c.in-Err.is a.self.reset a.self.sectors
    c.refuse_block.ensures

pub returns-then-command-eq0 : goal.returns-then-command-eq0
unfolding start_turn
returns-then-command-eq0 c =
    let a = c.args in
    let command = c.in-Ok.command in
    rw (read_as c.from_bytes-answer.result (read_command a.«data».now) c.from_bytes-answer.ensures command c.in-Ok.is)
    (rw (eq-eqb command.transfer_length 0 c.if-command-eq0.true) c.handle_zero_length_command.ensures)

pub returns : goal.returns
unfolding start_turn
returns c =
    let a = c.args in
    let command = c.in-Ok.command in
    done_as (IO command) a.self.reset Nothing c.settle.ensures
    (rw (
      read_as c.from_bytes-answer.result (read_command a.«data».now) c.from_bytes-answer.ensures command c.in-Ok.is,
      ne_eqb command.transfer_length 0 c.if-command-eq0.false,
    ) refl)
