-- All of the bytes pass the test exactly if they are all zero.
use Rattle.std.proofs.Common.{◌≡◌, ℕ, List, [], ◌∷◌, eqb, refl, ◌∙◌, rules, tests}
use Rattle.std.proofs.lemmas.Iterator.{YieldsList-from_slice}
use Rattle.std.proofs.lemmas.Iterator.Search.{all_from_yields_List}
use Rattle.std.specs.List.{list_all}
use Rattle.promise.proofs.Outcome.{on_test}
use Rattle.deck_block.specs.Block.{all_zero}
use Rattle.deck_block.proofs.all_zero.Goals as goal

-- the test at every byte, by a list's own word
same : (bs : List ℕ) → list_all (λ (b : ℕ). eqb b 0) bs ≡ all_zero bs
unfolding all_zero
same [] = refl
same (b ∷ bs) = on_test (eqb b 0) (λ zero. rw zero (same bs)) (λ other. rw other refl)

pub returns : goal.returns
returns c =
    let bytes = c.args.bytes.now in
    all_from_yields_List (λ (b : ℕ). eqb b 0) _ _ c.all.result c.all.ensures.ran (YieldsList-from_slice bytes cc) (λ x b q k. search (rules, tests)) ∙ same bytes
