-- One block: whether it is converted or left, how it is read, and that it is as long as it was.
use Rattle.std.proofs.Common.{◌≡◌, ℕ, suc, ◌<◌, ◌≤◌, Bool, true, false, not, eqb, List, [], ◌∷◌, length, drop, set, sym, refl, ap, ◌∙◌, arith, length-drop, ltb-false, ltb-true, le-ltb, lt-ltb, eq-eqb, ne_eqb, eqb-true}
use mathlib.Core.Bool.{false≢true}
use borrow.Author.Tests.{eqb-false}
use Rattle.promise.specs.Told.{Told, refused}
use Rattle.promise.specs.Rules.{pick, or_refuse}
use Rattle.promise.proofs.Outcome.{by_test, on_test}
use Rattle.deck_block.specs.declared.Request.{Request}
use Rattle.deck_block.specs.Block.{block_length, fields_of, block_check, upload_kind, unchecked_kind}
use Rattle.deck_block.specs.Place.{RightAt, tag_after}
use Rattle.deck_block.specs.Blocks.{is_short}
use Rattle.deck_block.specs.Reading.{card_told, read_by, read_card}
use Rattle.deck_block.proofs.Rechecked.{whole_block}
use Rattle.deck_block.proofs.Unique.{one_answer}
use Rattle.deck_convert.specs.declared.Convert.{Convert}
use Rattle.deck_convert.specs.Convert.{is_unchecked, is_right, is_converted, is_left, as_upload, convert_block, counted, behind}
use Rattle.deck_convert.specs.Code.{BlockMeets}
use Rattle.std.specs.Prelude.{Result}
use Rattle.deck_block.specs.declared.CardError.{CardError}
use Rattle.std.specs.declared.result.Result.TheVariants.{Err}
use Rattle.deck_block.specs.declared.CardError.TheVariants as card_error

module _ (tag : ℕ) (block : List ℕ) where
  -- a short one and one of another kind are neither converted nor left
  abbrev Neither : Type 0
  Neither = (is_converted tag block ≡ false) × (is_left tag block ≡ false)

  pub short_neither : length block < block_length → Neither
  short_neither short = let e = lt-ltb (length block) block_length short in (rw e refl, rw e refl)

  pub other_neither : block_length ≤ length block → ((fields_of block).kind ≡ unchecked_kind → ⊥) → Neither
  other_neither long other =
      let e = le-ltb (length block) block_length long in
      let k = ne_eqb (fields_of block).kind unchecked_kind other in
      (rw (e, k) refl, rw (e, k) refl)

  -- a whole one of kind 13 is one of both, by its check
  module _ (long : block_length ≤ length block) (kind : (fields_of block).kind ≡ unchecked_kind) where
    unchecked : is_unchecked block ≡ true
    unchecked = rw (le-ltb (length block) block_length long) (eq-eqb (fields_of block).kind unchecked_kind kind)

    pub by_check : (right : Bool) → is_right tag block ≡ right → (is_converted tag block ≡ right) × (is_left tag block ≡ not right)
    by_check right e = (
      ap (λ (u : Bool). pick u (is_right tag block) false) unchecked ∙ e,
      ap (λ (u : Bool). pick u (not (is_right tag block)) false) unchecked ∙ ap not e,
    )

    read_unchecked : read_card tag block ≡ pick (is_right tag block) (refused 46 []) (refused 40 [])
    unfolding read_by or_refuse
    read_unchecked =
        on_test (is_right tag block)
        (λ e. rw (le-ltb (length block) block_length long, e, eq-eqb (fields_of block).kind unchecked_kind kind) refl)
        (λ e. rw (le-ltb (length block) block_length long, e) refl)

    -- `WithdrawnKind` is the answer exactly if the check is right
    pub withdrawn_right : card_told (Err card_error.WithdrawnKind) ≡ read_card tag block → is_right tag block ≡ true
    unfolding card_told
    withdrawn_right told =
        on_test (is_right tag block) (λ e. e)
        (λ e. absurd
        (let wrong : read_card tag block ≡ refused 40 [] = read_unchecked ∙ ap {B = Told Request} (λ (b : Bool). pick b (refused 46 []) (refused 40 [])) e in
        let z : ◌≡◌ {A = ℕ} 46 40 = cc (told, wrong) in omega arith))

    pub other_wrong : (a : Result Request CardError) → (a ≡ Err card_error.WithdrawnKind → ⊥) → card_told a ≡ read_card tag block → is_right tag block ≡ false
    unfolding card_told
    other_wrong a other told =
        on_test (is_right tag block)
        (λ e. absurd
        (let right : read_card tag block ≡ card_told (Err card_error.WithdrawnKind) = read_unchecked ∙ ap {B = Told Request} (λ (b : Bool). pick b (refused 46 []) (refused 40 [])) e in
        other (one_answer a (Err card_error.WithdrawnKind) (read_card tag block) told (sym right))))
        (λ e. e)

  -- a converted one is whole, of kind 13 and right
  module _ (converted : is_converted tag block ≡ true) where
    pub was_whole : block_length ≤ length block
    was_whole =
        on_test (is_short block) (λ short. absurd (false≢true (sym (short_neither (ltb-true (length block) block_length short)).0 ∙ converted)))
        (λ long. ltb-false (length block) block_length long)

    pub was_unchecked : (fields_of block).kind ≡ unchecked_kind
    was_unchecked =
        on_test (eqb (fields_of block).kind unchecked_kind) (λ e. eqb-true (fields_of block).kind unchecked_kind e)
        (λ e. absurd (false≢true (sym (other_neither was_whole (eqb-false (fields_of block).kind unchecked_kind e)).0 ∙ converted)))

    pub was_right : RightAt tag block
    was_right = eqb-true (fields_of block).check (block_check tag block) (sym (by_check was_whole was_unchecked (is_right tag block) refl).0 ∙ converted)

-- a block with another first byte
pub as_long : (v : ℕ) (block : List ℕ) → block_length ≤ length block → length (v ∷ drop 1 block) ≡ length block
as_long v block long = ap suc (length-drop 1 block) ∙ (omega arith)

pub set_first : (v : ℕ) (block : List ℕ) → block_length ≤ length block → set block 0 v ≡ v ∷ drop 1 block
set_first v [] long = absurd (omega arith)
set_first v (b ∷ block) long = refl

pub upload_long : (tag : ℕ) (block : List ℕ) → block_length ≤ length block → length (as_upload tag block) ≡ block_length
upload_long tag block long = whole_block tag (upload_kind ∷ drop 1 block) (let l = as_long upload_kind block long in omega arith)

-- a block is as long as it was
pub same_length : (tag : ℕ) (block : List ℕ) → length block ≤ block_length → length (convert_block tag block) ≡ length block
unfolding convert_block
same_length tag block fits =
    by_test (λ (new : List ℕ). length new ≡ length block) (is_converted tag block)
    (λ e. let long = was_whole tag block e in upload_long tag block long ∙ (omega arith)) (λ e. refl)

-- what one block of the code comes to, by whether it is converted and whether it is left
pub block_meets : (r : Convert) (after block : List ℕ) (c : Convert) (tag : ℕ) (turned lost : Bool) → tag ≡ tag_after c.tag
    → (is_converted tag block ≡ turned) × (is_left tag block ≡ lost)
    → r ≡ record { tag = tag; converted = counted turned c.converted; left = counted lost c.left } → after ≡ pick turned (as_upload tag block) block
    → BlockMeets r after block c
unfolding behind convert_block
block_meets r after block c tag turned lost at is gives leaves =
    record {
      next = gives ∙ rw (← at, is.0, is.1) refl;
      leaves = leaves ∙ rw (← at, is.0) refl;
    }
