-- "P5 to P8 are also stated for kind 12".
use Rattle.std.specs.Prelude.{ℕ, ◌≡◌, List, replicate}
use Rattle.promise.specs.Told.{given}
use Rattle.deck_block.specs.declared.Request.TheVariants as request
use Rattle.deck_block.specs.Reading.{read_card}
use Rattle.deck.specs.Deal.{Head}
use Rattle.deck.specs.Dealing.{load, deal_block}
use Rattle.theorems.specs.PartDriver.{sizes_of}

-- a block that asks for the upload of an image of n bytes (kind 12 alone does) is dealt as the upload of that image, and the transfers of that upload have these sizes. That its control
-- writes are these transfers is `fresh_loads` (proofs/UploadTransfers).
abbrev pub Kind12 : ℕ → List ℕ → Type 0
Kind12 n sizes =
    (tag area fill : ℕ) (block : List ℕ) (h : Head) → read_card tag block ≡ given (request.WriteArea area n fill)
    → (deal_block tag block h ≡ load area (replicate n fill) h) × (sizes_of (replicate n fill) ≡ sizes)
