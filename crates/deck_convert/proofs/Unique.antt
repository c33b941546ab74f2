-- The contract allows one answer: two records are equal, and so are the chunks that are left.
use Rattle.std.proofs.Common.{◌≡◌, ℕ, List, sym, ◌∙◌}
use Rattle.deck_convert.specs.declared.Convert.{Convert}
use Rattle.deck_convert.specs.Convert.{ConvertMeets}

pub convert_unique : (r s : Convert) (after₁ after₂ before : List ℕ) (c : Convert) → ConvertMeets r after₁ before c → ConvertMeets s after₂ before c
    → (r ≡ s) × (after₁ ≡ after₂)
convert_unique r s after₁ after₂ before c p q = (p.next ∙ sym q.next, p.leaves ∙ sym q.leaves)
