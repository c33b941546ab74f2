-- "A converter turns kind 13 blocks whose check is right into kind 12 with a new check and copies all else unchanged."
use Rattle.std.specs.Prelude.{◌≡◌, ℕ, ◌+◌, ◌%◌, ◌^◌, Bool, false, not, List, [], ◌∷◌, drop, ◌==◌}
use Rattle.promise.specs.Rules.{pick}
use Rattle.deck_block.specs.Block.{fields_of, block_check, with_check, upload_kind, unchecked_kind}
use Rattle.deck_block.specs.Place.{tag_after}
use Rattle.deck_block.specs.Blocks.{is_short, blocks_of, joined}
use Rattle.deck_convert.specs.declared.Convert.{Convert}

-- "kind 13 blocks": whole ones; a short last block is copied like all else
abbrev pub is_unchecked : List ℕ → Bool
is_unchecked block = pick (is_short block) false ((fields_of block).kind == unchecked_kind)

-- "whose check is right": the one of this tag
abbrev pub is_right : ℕ → List ℕ → Bool
is_right tag block = (fields_of block).check == block_check tag block

abbrev pub is_converted : ℕ → List ℕ → Bool
is_converted tag block = pick (is_unchecked block) (is_right tag block) false

-- those whose check is wrong
abbrev pub is_left : ℕ → List ℕ → Bool
is_left tag block = pick (is_unchecked block) (not (is_right tag block)) false

-- "into kind 12 with a new check"
abbrev pub as_upload : ℕ → List ℕ → List ℕ
as_upload tag block = with_check tag (upload_kind ∷ drop 1 block)

-- "and copies all else unchanged"
unfoldable pub convert_block : ℕ → List ℕ → List ℕ
convert_block tag block = pick (is_converted tag block) (as_upload tag block) block

-- blocks, of which the first has this tag
unfoldable pub convert_blocks : ℕ → List (List ℕ) → List (List ℕ)
convert_blocks tag [] = []
convert_blocks tag (block ∷ blocks) = convert_block tag block ∷ convert_blocks (tag_after tag) blocks

-- all of an input, behind the block with this tag
abbrev pub convert_all : ℕ → List ℕ → List ℕ
convert_all last input = joined (convert_blocks (tag_after last) (blocks_of input))

-- no block yet
abbrev pub new_convert : Convert
new_convert = record { tag = 0; converted = 0; left = 0 }

-- a count of 64 bits, one further where it is
abbrev pub counted : Bool → ℕ → ℕ
counted more n = pick more ((n + 1) % 2 ^ 64) n

-- a deck behind one block more: its tag goes on as the bench's does, a short end included
unfoldable pub behind : List ℕ → Convert → Convert
behind block c =
    record {
      tag = tag_after c.tag;
      converted = counted (is_converted (tag_after c.tag) block) c.converted;
      left = counted (is_left (tag_after c.tag) block) c.left;
    }

unfoldable pub behind_blocks : List (List ℕ) → Convert → Convert
behind_blocks [] c = c
behind_blocks (block ∷ blocks) c = behind_blocks blocks (behind block c)

abbrev pub behind_all : List ℕ → Convert → Convert
behind_all input c = behind_blocks (blocks_of input) c

-- a chunk of the deck `c` that is answered r and left as `after`
pub record ConvertMeets (r : Convert) (after before : List ℕ) (c : Convert) : Type 0 where
  pub next : r ≡ behind_all before c
  pub leaves : after ≡ convert_all c.tag before
