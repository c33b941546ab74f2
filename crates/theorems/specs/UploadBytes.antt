-- The bytes of an upload, and how they are cut into transfers.
use Rattle.std.specs.Prelude.{ℕ, zero, suc, ◌+◌, ◌/◌, ◌%◌, List, [], ◌∷◌, ◌++◌, length, take, drop, eqb}
use Rattle.promise.specs.Rules.{pick}
use Rattle.crc.specs.Check.{check}
use Rattle.maskrom_transfer.specs.Moves.{block_size, check_bytes}
use Rattle.maskrom.specs.Made.{pad, padded}

-- "a zero if the length mod 4,096 is 4,094"
unfoldable pub last_zero : ℕ → List ℕ
last_zero n = pick (eqb (n % block_size) 4094) (0 ∷ []) []

-- "the image; a zero if ..", then these two bytes, then "a zero if .."
unfoldable pub framed : List ℕ → List ℕ → List ℕ
framed two image = padded image ++ (two ++ last_zero (length image))

-- "the check of all that, high byte first"
unfoldable pub upload_bytes : List ℕ → List ℕ
upload_bytes image = framed (check_bytes (check (padded image))) image

-- k transfers, each as long as it can be
unfoldable pub pieces : ℕ → List ℕ → List (List ℕ)
pieces zero bs = []
pieces (suc k) bs = take block_size bs ∷ pieces k (drop block_size bs)

-- "With T bytes in all there are floor(T/4,096)+1 transfers"
unfoldable pub cut : List ℕ → List (List ℕ)
cut bs = pieces (length bs / block_size + 1) bs

-- the length of an upload, T, by the image's
unfoldable pub total : ℕ → ℕ
total n = n + (length (pad n) + (2 + length (last_zero n)))
