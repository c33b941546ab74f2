-- The table of a whole byte: entry i is what eight zero bits make of a register whose high byte is i and whose low byte is 0.
use Rattle.std.specs.Prelude.{ℕ, zero, suc, ◌*◌, List, [], ◌∷◌}
use Rattle.crc.specs.Check.{byte_step}

-- what f gives at i, i + 1, .., n of them
unfoldable pub rows : (ℕ → ℕ) → ℕ → ℕ → List ℕ
rows f i zero = []
rows f i (suc n) = f i ∷ rows f (suc i) n

unfoldable pub entry : ℕ → ℕ
entry i = byte_step (i * 256) 0

unfoldable pub crc_table : List ℕ
crc_table = rows entry 0 256
