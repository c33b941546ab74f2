-- The device's call says what the flash holds then, and its answer whether the run goes on.
use Rattle.mock.specs.Device.{write_bulk}
use Rattle.run_turn.proofs.Meets.{written}
use Rattle.run_turn.proofs.write_turn.Goals as goal

pub returns : goal.returns
returns c =
    λ lent.
    let a = c.args in
    let b = c.write_bulk-written in
    let w = write_bulk a.device a.flash.now a.bytes.now in
    written c.after_transfer.result a.operation w b.result.state b.new.flash lent b.ensures.next b.ensures.leaves
    (c.after_transfer.ensures w.told b.new.flash lent b.ensures.tells)
