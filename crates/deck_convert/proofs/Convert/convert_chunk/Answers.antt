-- What is converted and what is left make the whole, behind each block and behind the last.
use Rattle.std.proofs.Common.{◌≡◌, ℕ, ◌+◌, ◌-◌, refl, subst, arith, length, length-drop, length-take}
use borrow.Rule.Slice.PartMut.{put_mid}
use Rattle.deck_convert.proofs.Laws.{OnTheWay, block_end, begins, ends, goes_on}
use Rattle.deck_convert.proofs.Convert.convert_chunk.Goals as goal
use Rattle.deck_convert.proofs.Convert.convert_chunk.Goals.{After-convert_block-self}

pub loop-at-init : goal.loop-at-init
loop-at-init c = begins c.args.chunk.now c.args.self

pub convert_block-self-requires : goal.convert_block-self-requires
convert_block-self-requires c = simp (length-take, length-drop) (let to = c.min-end.ensures in omega (arith, to))

-- behind the block, wherever the loop goes from there
module _ (c : After-convert_block-self) where
  to : c.min-end.result ≡ block_end c.loop-at.at (length c.loop-at.chunk)
  to = let e = c.min-end.ensures in let more = c.loop-at-test.true in let long = c.loop-at.invariant.long in omega (arith, e, more, long)

  further : OnTheWay c.args.chunk.now c.args.self
      (put_mid c.loop-at.at (c.min-end.result - c.loop-at.at) c.loop-at.chunk c.convert_block-self.new.block)
      c.convert_block-self.result c.min-end.result
  further =
      let l = c.loop-at in
      let a = c.args in
      let long = l.invariant.long in
      goes_on a.chunk.now a.self l.chunk l.self l.at l.invariant (let more = c.loop-at-test.true in omega (arith, more, long)) c.min-end.result
      to c.convert_block-self.result c.convert_block-self.new.block _ c.convert_block-self.ensures refl

pub loop-at-preserved : goal.loop-at-preserved
loop-at-preserved c =
    let l = c.loop-at in
    let end : c.min-end.result ≡ l.at + 512 =
    let e = c.min-end.ensures in let long = l.invariant.long in omega (arith, e, long) in
    subst (λ (at : ℕ). OnTheWay c.args.chunk.now c.args.self (put_mid l.at (c.min-end.result - l.at) l.chunk c.convert_block-self.new.block) c.convert_block-self.result at)
    end (further (goal.at.loop-at-preserved c).After-convert_block-self)

pub returns : goal.returns
returns c = let l = c.loop-at in let a = c.args in ends a.chunk.now a.self l.chunk l.self l.at l.invariant (let last = c.loop-at-test.false in let long = l.invariant.long in omega (arith, last, long))

pub returns-2 : goal.returns-2
returns-2 c =
    let a = c.args in
    let on = further (goal.at.returns-2 c).After-convert_block-self in
    ends a.chunk.now a.self _ c.convert_block-self.result c.min-end.result on
    (let e = c.min-end.ensures in let long = on.long in let before = c.loop-at.invariant.long in omega (arith, e, long, before))
