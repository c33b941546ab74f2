-- The first byte is set, and the check of what that makes is put in its place.
use Rattle.std.proofs.Common.{set, ap, ◌∙◌, arith, length-set}
use Rattle.deck_block.specs.Block.{with_check}
use Rattle.deck_block.proofs.Put.{put_right}
use Rattle.deck_convert.proofs.OneBlock.{set_first}
use Rattle.deck_convert.proofs.to_upload.Goals as goal

pub bounds-block-0 : goal.bounds-block-0
bounds-block-0 c = omega (arith, c.requires)

pub shape_of-block : goal.shape_of-block
shape_of-block c = c.put_check.auto.block ∙ length-set c.args.block.now 0 12

pub returns : goal.returns
returns c =
    let block = c.args.block.now in
    c.put_check.ensures
    ∙ put_right c.args.tag _ (set block 0 12) (length-set block 0 12 ∙ c.requires) c.block_check-check.ensures
    ∙ ap (with_check c.args.tag) (set_first 12 block (omega (arith, c.requires)))
