-- What the private functions of the code promise.
use Rattle.std.specs.Prelude.{◌≡◌, ℕ, List}
use Rattle.deck_block.specs.Place.{tag_after}
use Rattle.deck_convert.specs.declared.Convert.{Convert}
use Rattle.deck_convert.specs.Convert.{convert_block, behind}

-- one block of the deck `c`
pub record BlockMeets (r : Convert) (after block : List ℕ) (c : Convert) : Type 0 where
  pub next : r ≡ behind block c
  pub leaves : after ≡ convert_block (tag_after c.tag) block
