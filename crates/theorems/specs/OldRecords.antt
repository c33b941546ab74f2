-- Old wire records: uploads without a check, for which there is no start any more. "The rule with two zero bytes remains as a definition so that old wire
-- records can still be read".
use Rattle.std.specs.Prelude.{ℕ, ◌-◌, ◌%◌, eqb, length, take}
use mathlib.Core.List.{List, [], ◌∷◌, map, flatten}
use Rattle.promise.specs.Rules.{pick}
use Rattle.maskrom_transfer.specs.Moves.{block_size}
use Rattle.theorems.specs.UploadBytes.{framed, cut}
use Rattle.theorems.specs.PartDriver.{Transfer, transfer}

-- ".. or 00 00"
unfoldable pub unchecked_bytes : List ℕ → List ℕ
unchecked_bytes image = framed (0 ∷ 0 ∷ []) image

-- the transfers of such an upload to an area, and their sizes
unfoldable pub unchecked_transfers : ℕ → List ℕ → List Transfer
unchecked_transfers area image = map (transfer area) (cut (unchecked_bytes image))

abbrev pub unchecked_sizes : List ℕ → List ℕ
unchecked_sizes image = map length (cut (unchecked_bytes image))

-- reading a record

-- its bytes, transfer after transfer
abbrev pub record_bytes : List Transfer → List ℕ
record_bytes ts = flatten (map (λ (t : Transfer). t.bytes) ts)

-- how many bytes stand behind the image and its pad, by the number of all: the two zeros, and one more where the last transfer is of one byte
unfoldable pub behind_image : ℕ → ℕ
behind_image n = pick (eqb (n % block_size) 1) 3 2

-- the image and its pad, which a record does not tell apart from an image that ends so
unfoldable pub image_read : List ℕ → List ℕ
image_read bytes = take (length bytes - behind_image (length bytes)) bytes
