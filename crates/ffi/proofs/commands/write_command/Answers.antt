-- The writer's answer as a number, and its output.
use mathlib.Core.Path.{ap, sym, ◌∙◌}
use lib.ListN.{length}
use Rattle.promise.specs.Told.{number}
use Rattle.promise.specs.Bytes.{front}
use Rattle.protocol_bytes.proofs.Writer.{written_number}
use Rattle.protocol.specs.declared.CommandBlock.{CommandBlock}
use Rattle.protocol.specs.CommandBytes.{write_command}
use Rattle.ffi.proofs.commands.write_command.Goals as goal

pub returns : goal.returns
returns c =
    let w = c.to_bytes.ensures.write_meets in
    let k = c.read_lba.ensures in
    let out = c.args.out.now in (
      c.number.ensures ∙ sym (written_number c.to_bytes.result) ∙ ap number w.tells ∙ ap (λ (x : CommandBlock). number (write_command x (length out)).told) k,
      w.leaves ∙ ap (λ (x : CommandBlock). front (write_command x (length out)).sent out) k,
    )
