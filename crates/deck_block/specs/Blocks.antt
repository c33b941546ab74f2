-- The blocks of an input.
use Rattle.std.specs.Prelude.{ℕ, zero, suc, ◌+◌, ◌/◌, ◌%◌, ◌≡◌, Bool, List, [], ◌∷◌, ◌++◌, ltb, length, take, drop}
use Rattle.deck_block.specs.Block.{block_length}

-- "44 short last block (then stop)"
abbrev pub is_short : List ℕ → Bool
is_short block = ltb (length block) block_length

-- how many blocks so many bytes begin
abbrev pub begun : ℕ → ℕ
begun n = (n + 511) / block_length

-- the first blocks of an input
unfoldable pub cut : ℕ → List ℕ → List (List ℕ)
cut zero input = []
cut (suc n) input = take block_length input ∷ cut n (drop block_length input)

-- "512-byte blocks", of which the last may be short; no input has none
abbrev pub blocks_of : List ℕ → List (List ℕ)
blocks_of input = cut (begun (length input)) input

-- parts of an input, one behind the other
unfoldable pub joined : List (List ℕ) → List ℕ
joined [] = []
joined (part ∷ parts) = part ++ joined parts

-- every part of an input but the last has whole blocks; it may have none
abbrev pub WholeButLast : List (List ℕ) → Type 0
WholeButLast [] = Unit
WholeButLast (part ∷ []) = Unit
WholeButLast (part ∷ next ∷ parts) = (length part % block_length ≡ 0) × WholeButLast (next ∷ parts)

-- no block is short
abbrev pub Whole : List (List ℕ) → Type 0
Whole [] = Unit
Whole (block ∷ blocks) = (length block ≡ block_length) × Whole blocks

-- the block that starts at place `from` of an input
abbrev pub block_at : ℕ → List ℕ → List ℕ
block_at from input = take block_length (drop from input)
