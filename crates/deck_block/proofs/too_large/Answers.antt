-- Each arm is the definition at its kind.
use Rattle.std.proofs.Common.{arith}
use Rattle.std.proofs.lemmas.Bool.Decides.{nat_tests}
use Rattle.deck_block.specs.Block.{too_large}
use Rattle.deck_block.proofs.too_large.Goals as goal

pub returns-in-7 : goal.returns-in-7
unfolding too_large
returns-in-7 c = grind (arith, nat_tests)

pub returns-in-12 : goal.returns-in-12
unfolding too_large
returns-in-12 c = grind (arith, nat_tests)

pub returns-in_default : goal.returns-in_default
unfolding too_large
returns-in_default c = grind (arith, nat_tests)

pub returns-in_default-2 : goal.returns-in_default-2
unfolding too_large
returns-in_default-2 c = grind (arith, nat_tests)
