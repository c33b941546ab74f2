-- What the private functions of the code promise.
use Rattle.std.specs.Prelude.{◌≡◌, ℕ, ◌+◌, ◌≤◌, Bool, List, length, ◌==◌}
use Rattle.promise.specs.Rules.{pick}
use Rattle.promise.specs.Over.{over}
use Rattle.deck_block.specs.Block.{fields_of, first_check, with_check}
use Rattle.deck_recheck.specs.declared.RecheckStep.{RecheckStep}
use Rattle.deck_recheck.specs.Recheck.{standing, Written}

-- whether a block's first check is right; where it is, the check with this tag stands in its place
pub record BlockMeets (r : Bool) (after : List ℕ) (tag : ℕ) (block : List ℕ) : Type 0 where
  pub right : r ≡ ((fields_of block).check == first_check block)
  pub leaves : after ≡ pick r (with_check tag block) block

-- one block more, behind the first `from` bytes, which are rechecked
pub record NextMeets (r : RecheckStep) (after : List ℕ) (from : ℕ) (before : List ℕ) (w : Written) : Type 0 where
  pub bytes : r.bytes ≡ from + length w.bytes
  pub next : standing r.recheck ≡ w.leaves
  pub leaves : after ≡ over from w.bytes before
  pub inside : from + length w.bytes ≤ length before
