-- The numbers that a block itself is refused with.
use Rattle.std.specs.Prelude.{ℕ, ◌≡◌, Bool, true, false, List, [], ◌∷◌, eqb}
use Rattle.promise.specs.Told.{Told, given, refused}
use Rattle.promise.specs.Rules.{pick}
use Rattle.deck_block.specs.declared.Request.{Request}

-- a number of the list
abbrev pub is_among : ℕ → List ℕ → Bool
is_among n [] = false
is_among n (m ∷ ms) = pick (eqb n m) true (is_among n ms)

abbrev pub block_refusals : List ℕ
block_refusals = 40 ∷ 41 ∷ 42 ∷ 43 ∷ 44 ∷ 45 ∷ 46 ∷ []

abbrev pub CardTold : Told Request → Type 0
CardTold (given r) = Unit
CardTold (refused n values) = is_among n block_refusals ≡ true
