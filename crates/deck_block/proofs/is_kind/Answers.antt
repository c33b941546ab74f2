-- The test of the code is that of the definition.
use Rattle.std.proofs.Common.{◌≡◌, false, ltb, leb, arith}
use Rattle.std.proofs.lemmas.Grind.{common_steps}
use Rattle.std.proofs.lemmas.Bool.Decides.{nat_tests}
use Rattle.promise.proofs.Outcome.{on_test}
use Rattle.deck_block.specs.Block.{is_kind}
use Rattle.deck_block.proofs.is_kind.Goals as goal

pub returns : goal.returns
unfolding is_kind
returns c =
    let kind = c.args.kind in
    on_test (ltb kind 1)
    (λ none. let no : c.contains.result ≡ false = grind (arith, nat_tests, common_steps) in rw none no)
    (λ some. let same : c.contains.result ≡ leb kind 12 = grind (arith, nat_tests, common_steps) in rw some same)
