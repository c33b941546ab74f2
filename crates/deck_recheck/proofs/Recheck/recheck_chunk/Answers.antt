-- What is rechecked and what is left make the whole, behind each block and behind the last.
use Rattle.std.proofs.Common.{◌≡◌, ℕ, ◌+◌, ◌<◌, ◌≤◌, List, length, subst, arith}
use Rattle.deck_recheck.specs.Recheck.{standing, recheck_all, RecheckMeets}
use Rattle.deck_recheck.specs.declared.Recheck.{Recheck}
use Rattle.deck_recheck.specs.declared.RecheckStep.{RecheckStep}
use Rattle.deck_recheck.proofs.Laws.{OnTheWay, begins, ends_there, goes_on, grew, stops_there}
use Rattle.deck_recheck.proofs.Recheck.recheck_chunk.Goals as goal
use Rattle.deck_recheck.proofs.Recheck.recheck_chunk.Goals.{Else-step-from}

-- a deck with the first bytes of a chunk behind it
abbrev at : ℕ → Recheck → RecheckStep
at bytes recheck = record { bytes = bytes; recheck = recheck }

pub loop-from-init : goal.loop-from-init
loop-from-init c = begins c.args.chunk.now c.args.self

pub returns-then-step-from : goal.returns-then-step-from
returns-then-step-from c =
    let l = c.loop-from in
    let a = c.args in
    stops_there a.chunk.now (standing a.self) (at l.from l.self) l.chunk l.invariant (let t = c.loop-from-test.true in let long = l.invariant.long in omega (arith, t, long))
    c.recheck_next-step.result _ c.recheck_next-step.ensures c.if-step-from.true

-- with the block that was rechecked
module _ (c : Else-step-from) where
  more : c.loop-from.from < length c.loop-from.chunk
  more = let t = c.loop-from-test.true in let long = c.loop-from.invariant.long in omega (arith, t, long)

  further : OnTheWay c.args.chunk.now (standing c.args.self) c.recheck_next-step.result c.recheck_next-step.new.chunk
  further =
      let l = c.loop-from in
      let a = c.args in
      goes_on a.chunk.now (standing a.self) (at l.from l.self) l.chunk l.invariant more c.recheck_next-step.result _
      c.recheck_next-step.ensures c.if-step-from.false

  there : c.recheck_next-step.result.bytes ≡ c.loop-from.from + 512
  there =
      let l = c.loop-from in
      let a = c.args in
      grew a.chunk.now (standing a.self) (at l.from l.self) l.chunk l.invariant more c.recheck_next-step.result _
      c.recheck_next-step.ensures c.if-step-from.false

pub loop-from-preserved : goal.loop-from-preserved
loop-from-preserved c =
    let p = (goal.at.loop-from-preserved c).Else-step-from in
    subst (λ (n : ℕ). OnTheWay c.args.chunk.now (standing c.args.self) (at n c.recheck_next-step.result.recheck) c.recheck_next-step.new.chunk) (there p) (further p)

-- the whole of a chunk is rechecked
whole : (chunk₀ : List ℕ) (self : Recheck) (n : ℕ) (recheck : Recheck) (chunk : List ℕ) → OnTheWay chunk₀ (standing self) (at n recheck) chunk → length chunk ≤ n
    → RecheckMeets (at (length chunk) recheck) chunk chunk₀ (recheck_all chunk₀ (standing self))
whole chunk₀ self n recheck chunk way last =
    let end : n ≡ length chunk = let l = way.long in let i = way.inside in omega (arith, l, i) in
    subst (λ (k : ℕ). RecheckMeets (at k recheck) chunk chunk₀ (recheck_all chunk₀ (standing self))) end
    (ends_there chunk₀ (standing self) (at n recheck) chunk way last)

pub returns : goal.returns
returns c =
    let l = c.loop-from in
    whole c.args.chunk.now c.args.self l.from l.self l.chunk l.invariant (let t = c.loop-from-test.false in let long = l.invariant.long in omega (arith, t, long))

pub returns-else-step-from : goal.returns-else-step-from
returns-else-step-from c =
    let p = (goal.at.returns-else-step-from c).Else-step-from in
    let on = further p in
    whole c.args.chunk.now c.args.self c.recheck_next-step.result.bytes c.recheck_next-step.result.recheck c.recheck_next-step.new.chunk on
    (let b = there p in let long = on.long in let before = c.loop-from.invariant.long in omega (arith, b, long, before))
