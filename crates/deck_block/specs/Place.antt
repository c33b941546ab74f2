-- Where a block stands: which tags its check is right for.
use Rattle.std.specs.Prelude.{ℕ, ◌+◌, ◌%◌, ◌^◌, ◌≤◌, ◌≡◌, List, [], ◌∷◌, length}
use Rattle.promise.specs.Bytes.{high_first}
use Rattle.crc.specs.Check.{check}
use Rattle.deck_block.specs.Block.{block_length, fields_of, block_check, first_check, with_check}

-- the block's check is the one of this tag
abbrev pub RightAt : ℕ → List ℕ → Type 0
RightAt tag block = (fields_of block).check ≡ block_check tag block

-- the block's check is the first one, as in decks made before
abbrev pub RightBefore : List ℕ → Type 0
RightBefore block = (fields_of block).check ≡ first_check block

-- "the tag goes on from 4,294,967,295 to 0"
abbrev pub tag_after : ℕ → ℕ
tag_after tag = (tag + 1) % 2 ^ 32

-- a deck whose blocks are whole, and right from this tag on
abbrev pub RightFrom : ℕ → List (List ℕ) → Type 0
RightFrom tag [] = Unit
RightFrom tag (block ∷ blocks) = ((length block ≡ block_length) × RightAt tag block) × RightFrom (tag_after tag) blocks

-- a deck made before: each block has 512 bytes at least, and its first check
abbrev pub RightDeckBefore : List (List ℕ) → Type 0
RightDeckBefore [] = Unit
RightDeckBefore (block ∷ blocks) = ((block_length ≤ length block) × RightBefore block) × RightDeckBefore blocks

-- the same blocks with the checks of their tags
abbrev pub with_checks : ℕ → List (List ℕ) → List (List ℕ)
with_checks tag [] = []
with_checks tag (block ∷ blocks) = with_check tag block ∷ with_checks (tag_after tag) blocks

-- the register behind the four bytes of a tag, which is all that a check knows of it
abbrev pub tag_register : ℕ → ℕ
tag_register tag = check (high_first 4 tag)

-- two tags are told apart
abbrev pub Apart : ℕ → ℕ → Type 0
Apart i j = tag_register i ≡ tag_register j → ⊥
