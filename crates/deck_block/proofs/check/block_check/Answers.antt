-- The tag's four bytes and then the block's: the register goes on from the one to the other.
use Prim.Native.Nat.{ℕ}
use mathlib.Core.Path.{ap, sym, ◌∙◌}
use lib.ListN.{take}
use Rattle.promise.specs.Bytes.{high_first}
use Rattle.crc.specs.Check.{start, crc_over}
use Rattle.crc.proofs.Laws.{over_append}
use Rattle.deck_block.specs.Block.{block_check}
use Rattle.deck_block.proofs.check.block_check.Goals as goal

pub returns : goal.returns
unfolding block_check
returns c =
    let a = c.args in
    let block = take 510 a.block.now in
    c.over_block.ensures
    ∙ ap (λ (r : ℕ). crc_over r block) (c.checksum.ensures ∙ ap (crc_over start) c.u32_to_be_bytes-place.ensures)
    ∙ sym (over_append start (high_first 4 a.tag) block)
