-- What a private step of the code leaves.
use Rattle.std.specs.Prelude.{◌≡◌, ℕ, List, length}
use Rattle.promise.specs.Bytes.{front}
use Rattle.maskrom_transfer.specs.declared.Moved.{Moved}
use Rattle.maskrom_transfer.specs.Moves.{Moves}

-- the bytes at the front of the output, and their number
abbrev pub PutMeets : ℕ → List ℕ → List ℕ → List ℕ → Type 0
PutMeets r bytes before now = (r ≡ length bytes) × (now ≡ front bytes before)

-- the bytes at the front of the output, their number, the register and the next place
pub record SendMeets (r : Moved) (before now : List ℕ) (to : Moves) : Type 0 where
  pub size : r.size ≡ length to.bytes
  pub crc : r.crc ≡ to.crc
  pub steps : r.steps ≡ to.steps
  pub leaves : now ≡ front to.bytes before
