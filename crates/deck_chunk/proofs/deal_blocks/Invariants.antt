-- What is done and what is left make the whole, and the iterator has the bytes that are left.
use Rattle.std.proofs.Common.{◌≡◌, ◌*◌, length, drop}
use Rattle.std.specs.Slice.Iter.{chunks_rest, chunks_size}
use Rattle.deck_block.specs.Blocks.{begun}
use Rattle.deck_chunk.proofs.Laws.{OnTheWay}
use Rattle.deck_chunk.proofs.deal_blocks.Given as goal

abbrev pub invariant-loop-block : goal.invariant-loop-block
invariant-loop-block l =
    (chunks_size l.block-iterator ≡ 512) × (chunks_rest l.block-iterator ≡ drop (length l.yielded * 512) l.blocks)
    × OnTheWay (begun (length l.blocks)) (length l.yielded) l.blocks l.initial.lines l.initial.flash l.initial.store l.initial.progress.deck l.progress l.lines l.flash l.store
