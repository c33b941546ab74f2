-- Stopped, and nothing is done; or the next block is short, bad or right.
use Rattle.std.proofs.Common.{◌≡◌, ℕ, ◌+◌, ◌-◌, List, length, take, drop, refl, ap, ◌∙◌, subst, arith, length-drop, length-take}
use Rattle.std.specs.Prelude.{Option}
use Rattle.deck_recheck.specs.declared.Stop.{Stop}
use Rattle.deck_block.specs.Blocks.{block_at}
use Rattle.deck_recheck.specs.declared.Recheck.{Recheck}
use Rattle.deck_recheck.specs.declared.RecheckStep.{RecheckStep}
use Rattle.deck_recheck.specs.Recheck.{standing, next_number, next_tag}
use Rattle.deck_recheck.specs.Code.{BlockMeets}
use Rattle.deck_recheck.proofs.Laws.{step_at, next_none, next_short, next_bad, next_right}
use Rattle.deck_recheck.proofs.recheck_next.Goals as goal
use Rattle.deck_recheck.proofs.recheck_next.Goals.{After-recheck_block}

-- a deck with the first bytes of a chunk behind it
abbrev at : ℕ → Recheck → RecheckStep
at bytes recheck = record { bytes = bytes; recheck = recheck }

-- the part that is lent is the block
lent : (from : ℕ) (chunk : List ℕ) → take (from + 512 - from) (drop from chunk) ≡ block_at from chunk
lent from chunk =
    let k : from + 512 - from ≡ 512 = omega arith in
    ap (λ (n : ℕ). take n (drop from chunk)) k

met : (c : After-recheck_block)
    → let a = c.args in
    BlockMeets c.recheck_block.result c.recheck_block.new.block (next_tag (standing c.args.recheck)) (block_at a.from a.chunk.now)
met c =
    subst (λ (b : List ℕ). BlockMeets c.recheck_block.result c.recheck_block.new.block (next_tag (standing c.args.recheck)) b)
    (lent c.args.from c.args.chunk.now) c.recheck_block.ensures

pub returns-in_default : goal.returns-in_default
returns-in_default c =
    next_none (at c.args.from c.args.recheck) c.args.chunk.now (block_at c.args.from c.args.chunk.now) _ c.in_default.is (omega (arith, c.requires))

pub returns-then-chunk-from-lt-BLOCK : goal.returns-then-chunk-from-lt-BLOCK
returns-then-chunk-from-lt-BLOCK c =
    next_short (at c.args.from c.args.recheck) c.args.chunk.now _ _ _ c.in-None.is
    refl refl
    refl c.if-chunk-from-lt-BLOCK.true (omega (arith, c.requires))

pub recheck_block-requires : goal.recheck_block-requires
recheck_block-requires c = ap length (lent c.args.from c.args.chunk.now) ∙ (simp (length-take, length-drop) (let long = c.if-chunk-from-lt-BLOCK.false in omega (arith, c.requires)))

pub returns-then-not-recheck_block : goal.returns-then-not-recheck_block
returns-then-not-recheck_block c =
    next_bad (at c.args.from c.args.recheck) c.args.chunk.now _ _ _ c.in-None.is
    refl refl
    (c.args.from + 512 - c.args.from) _ _ (omega arith) (let long = c.if-chunk-from-lt-BLOCK.false in omega (arith, c.requires)) refl refl
    c.recheck_block.result c.if-not-recheck_block.true (met (goal.at.returns-then-not-recheck_block c).After-recheck_block)

pub returns : goal.returns
returns c =
    next_right (at c.args.from c.args.recheck) c.args.chunk.now _ _ _ c.in-None.is
    refl refl
    (c.args.from + 512 - c.args.from) _ _ (omega arith) (let long = c.if-chunk-from-lt-BLOCK.false in omega (arith, c.requires)) refl (ap (λ (s : Option Stop). step_at (next_number (standing c.args.recheck)) (next_tag (standing c.args.recheck)) s (c.args.from + 512)) c.in-None.is)
    c.recheck_block.result c.if-not-recheck_block.false (met (goal.at.returns c).After-recheck_block)
