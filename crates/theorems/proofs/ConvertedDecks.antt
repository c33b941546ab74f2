-- A deck made before goes through `recheck` first and then through `convert`: what comes of it is a right deck without kind 13.
use Prim.Native.Nat.{ℕ}
use mathlib.Core.Path.{◌≡◌, refl, subst, ◌∙◌}
use mathlib.Core.List.{List}
use lib.Dec.{lit<}
use Rattle.deck_block.specs.Blocks.{blocks_of, joined, WholeButLast}
use Rattle.deck_block.specs.Place.{RightFrom, RightDeckBefore}
use Rattle.deck_recheck.specs.declared.Recheck.{Recheck}
use Rattle.deck_recheck.specs.Recheck.{new_recheck}
use Rattle.deck_convert.specs.declared.Convert.{Convert}
use Rattle.deck_convert.specs.Convert.{is_unchecked, new_convert, ConvertMeets}
use Rattle.deck_convert.specs.Converted.{how_many, Converts}
use Rattle.deck_convert.proofs.Deck.{right_none_left}
use Rattle.deck_convert.proofs.AnyCaller as converting
use Rattle.theorems.specs.Rechecks.{Rechecks}
use Rattle.theorems.proofs.RecheckedDecks.{old_deck_rechecked}

-- any caller of `recheck_chunk`, and then any of `convert_chunk` with what was written, each in chunks of his own
module _ (old : List (List ℕ)) (rechecked : List ℕ) (recheck : Recheck) (old_whole : WholeButLast old) (rechecks : Rechecks new_recheck old rechecked recheck)
    (chunks : List (List ℕ)) (new : List ℕ) (convert : Convert) (whole : WholeButLast chunks) (converts : Converts new_convert chunks new convert)
    (same : joined chunks ≡ rechecked) where
  -- right from block 1 on, no block of kind 13, and none left
  pub rechecked_then_converted : RightDeckBefore (blocks_of (joined old))
      → RightFrom 1 (blocks_of new) × ((how_many (λ tag block. is_unchecked block) 1 (blocks_of new) ≡ 0) × (convert.left ≡ 0))
  rechecked_then_converted before =
      let right = (old_deck_rechecked new_recheck old rechecked recheck refl old_whole rechecks before).1.0 in
      let met = subst (λ (input : List ℕ). ConvertMeets convert new input new_convert) same (converting.any_chunks new_convert chunks new convert whole converts) in
      let again = converting.right_deck convert new rechecked new_convert met right (lit< tt) in
      (again.0, (converting.what_is_left convert new rechecked new_convert met ∙ right_none_left 1 (blocks_of rechecked) right, again.1))
