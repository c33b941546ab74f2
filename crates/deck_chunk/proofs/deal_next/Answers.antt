-- Over, and nothing is done; or the block is dealt, and its line put behind the others.
use mathlib.Core.Path.{◌≡◌, refl}
use lib.ListN.{length}
use borrow.Author.Rules.{rules}
use Rattle.deck_line.specs.Line.{longest_line}
use Rattle.deck_chunk.proofs.Laws.{lined_short, next_none, next_one}
use Rattle.deck_chunk.proofs.deal_next.Goals as goal

pub returns-then-progress : goal.returns-then-progress
returns-then-progress c =
    let a = c.args in
    next_none a.progress a.lines.now a.flash.now a.store.now a.block.now c.if-progress.true

pub put_line-requires : goal.put_line-requires
put_line-requires c =
    let d = c.deal_line-lined in
    let long : length d.result.line.bytes ≡ longest_line = search rules in
    (c.requires.0, lined_short d.result _ _ _ _ _ _ d.ensures long)

pub returns : goal.returns
returns c =
    let a = c.args in
    let dealt = c.deal_line-lined in
    let put = c.put_line in
    let long : length dealt.result.line.bytes ≡ longest_line = search rules in
    next_one a.progress dealt.result a.lines.now a.flash.now a.store.now a.block.now _ _ _ _ _
    c.if-progress.false dealt.ensures long refl put.ensures.value put.ensures.lines_after
