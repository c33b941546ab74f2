-- The part of the image that is lent on is no longer than a block (`most_block`), and ends inside the image.
use Rattle.std.proofs.Common.{◌+◌, ◌-◌, ◌≤◌, length, take, drop, length-take, arith}
use Rattle.maskrom.proofs.Cases.{most_block}
use Rattle.maskrom.proofs.WholeUpload.step.Goals as goal

pub send_on-requires : goal.send_on-requires
send_on-requires c =
    let from = c.min-from.result in
    let size = c.chunk_size.result in
    let n : length (take (from + size - from) (drop from c.args.image.now)) ≤ size = simp length-take (omega arith) in
    (omega (arith, most_block c.args.self.steps), omega arith)
