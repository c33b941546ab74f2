-- 20 leaves everything as it was; else all blocks are dealt.
use Prim.Native.Nat.{ℕ, ◌*◌, ◌≤◌}
use mathlib.Core.Path.{◌≡◌}
use Rattle.std.specs.Int.{div_ceil}
use native.Mathlib.Omega.{arith}
use lib.ListN.{length}
use borrow.Author.Tests.{lt-ltb, le-ltb}
use Rattle.deck_line.specs.Line.{longest_line}
use Rattle.deck_block.specs.Blocks.{begun}
use Rattle.deck_chunk.proofs.Laws.{too_short, all_dealt}
use Rattle.deck_chunk.proofs.Deck.deal_chunk.Goals as goal
use Rattle.deck_chunk.proofs.Deck.deal_chunk.Goals.{Else-lines-div_ceil}

-- the blocks that are begun, by the library's word
same : (n k : ℕ) → k ≡ div_ceil n 512 → k ≡ begun n
same n k e = omega arith

-- there is room for all lines
room : (c : Else-lines-div_ceil) → let a = c.args in longest_line * begun (length a.blocks.now) ≤ length a.lines.now
room c = let n = same (length c.args.blocks.now) c.div_ceil.result c.div_ceil.ensures in let left = c.if-lines-div_ceil.false in omega arith

pub overflow_mul-div_ceil : goal.overflow_mul-div_ceil
overflow_mul-div_ceil c = let n = same (length c.args.blocks.now) c.div_ceil.result c.div_ceil.ensures in omega arith

pub returns-then-lines-div_ceil : goal.returns-then-lines-div_ceil
returns-then-lines-div_ceil c =
    let a = c.args in
    too_short a.self a.blocks.now a.flash.now a.store.now a.lines.now
    (lt-ltb (length a.lines.now) (longest_line * begun (length a.blocks.now)) (let n = same (length c.args.blocks.now) c.div_ceil.result c.div_ceil.ensures in let room = c.if-lines-div_ceil.true in omega arith))

pub deal_blocks-done-requires : goal.deal_blocks-done-requires
deal_blocks-done-requires c = room (goal.at.deal_blocks-done-requires c).Else-lines-div_ceil

pub returns : goal.returns
returns c =
    let a = c.args in
    let done = c.deal_blocks-done in
    all_dealt a.self a.blocks.now a.flash.now a.store.now a.lines.now done.result _ _ _
    (le-ltb (length a.lines.now) (longest_line * begun (length a.blocks.now)) (room (goal.at.returns c).Else-lines-div_ceil))
    done.ensures
