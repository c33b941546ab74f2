-- The fields of the block that was read, or the number of the refusal, as the definition puts them.
use mathlib.Core.Path.{ap, sym, ◌∙◌}
use Prim.Native.Nat.{ℕ, ◌*◌}
use Rattle.std.specs.Prelude.{Result}
use Rattle.protocol.specs.declared.CommandBlock.{CommandBlock}
use Rattle.protocol.specs.declared.CommandBlockParseError.{CommandBlockParseError}
use Rattle.protocol.specs.CommandMeets.{command_told}
use Rattle.ffi.specs.Command.{command_number}
use Rattle.ffi.proofs.commands.read_command.Goals as goal

pub returns-in-Ok : goal.returns-in-Ok
unfolding command_told
returns-in-Ok c =
    let r = c.from_bytes in
    c.number_of.ensures
    ∙ sym (ap (λ (a : Result CommandBlock CommandBlockParseError). command_number (command_told a r.result.signature)) c.in-Ok.is)
    ∙ ap command_number r.ensures.tells

pub returns-in-Err : goal.returns-in-Err
unfolding command_told command_number
returns-in-Err c =
    let r = c.from_bytes in
    ap (λ (n : ℕ). n * 72057594037927936) c.number.ensures
    ∙ sym (ap (λ (a : Result CommandBlock CommandBlockParseError). command_number (command_told a r.result.signature)) c.in-Err.is)
    ∙ ap command_number r.ensures.tells
