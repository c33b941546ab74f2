-- What the theorems say of a converted block, of every block of an input, of the counts, and of somebody who converts a deck chunk by chunk.
use Rattle.std.specs.Prelude.{◌≡◌, ℕ, ◌+◌, Bool, true, false, not, List, [], ◌∷◌, ◌++◌, length, ◌≢◌, nat_lt}
use Rattle.promise.specs.Told.{Told, given, refused}
use Rattle.promise.specs.Rules.{pick, rule, unless}
use Rattle.promise.specs.Bytes.{field}
use Rattle.deck_block.specs.declared.Request.{Request}
use Rattle.deck_block.specs.declared.Request.TheVariants as request
use Rattle.deck_block.specs.Block.{block_length, fields_of, all_zero, upload_kind, longest_image}
use Rattle.deck_block.specs.Place.{RightAt, tag_after}
use Rattle.deck_block.specs.Reading.{read_card}
use Rattle.deck_convert.specs.declared.Convert.{Convert}
use Rattle.deck_convert.specs.Convert.{is_converted, ConvertMeets}

-- what a block of kind 13 asks for once its kind is 12: only its other bytes can still be refused
abbrev pub upload_read : List ℕ → Told Request
upload_read block =
    unless
    (rule (not (all_zero (field 8 502 block))) 42 []
    ∷ rule (nat_lt longest_image (fields_of block).word) 43 []
    ∷ [])
    (given (request.WriteArea (fields_of block).half (fields_of block).word (fields_of block).byte))

-- a converted block: whole, of kind 12, its bytes 1 to 509 as they were, right at its tag, and read there as an upload
pub record Upload (tag : ℕ) (block new : List ℕ) : Type 0 where
  pub whole : length new ≡ block_length
  pub kind : (fields_of new).kind ≡ upload_kind
  pub as_before : field 1 509 new ≡ field 1 509 block
  pub right : RightAt tag new
  pub read : read_card tag new ≡ upload_read block

-- what becomes of a block
pub record Outcome (tag : ℕ) (block new : List ℕ) : Type 0 where
  pub stays : is_converted tag block ≡ false → new ≡ block
  pub converts : is_converted tag block ≡ true → Upload tag block new

-- and of every block, of which the first has this tag; there are as many as there were
abbrev pub Each : ℕ → List (List ℕ) → List (List ℕ) → Type 0
Each tag [] [] = Unit
Each tag [] (new ∷ news) = ⊥
Each tag (block ∷ blocks) [] = ⊥
Each tag (block ∷ blocks) (new ∷ news) = Outcome tag block new × Each (tag_after tag) blocks news

-- no block is refused as 46 at its place
abbrev pub None46 : ℕ → List (List ℕ) → Type 0
None46 tag [] = Unit
None46 tag (block ∷ blocks) = (read_card tag block ≢ refused 46 []) × None46 (tag_after tag) blocks

-- how many blocks pass a test, each with its tag
abbrev pub how_many : (ℕ → List ℕ → Bool) → ℕ → List (List ℕ) → ℕ
how_many test tag [] = 0
how_many test tag (block ∷ blocks) = pick (test tag block) 1 0 + how_many test (tag_after tag) blocks

-- any caller of `convert_chunk` who lends these chunks in this order: what they are afterwards, joined, and the deck behind them
pub data Converts : Convert → List (List ℕ) → List ℕ → Convert → Type 0 where
  no_more : (c : Convert) → Converts c [] [] c
  a_chunk : (c : Convert) (chunk : List ℕ) (r : Convert) (after : List ℕ) (chunks : List (List ℕ)) (out : List ℕ) (end : Convert)
      → ConvertMeets r after chunk c → Converts r chunks out end → Converts c (chunk ∷ chunks) (after ++ out) end
