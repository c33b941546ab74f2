-- Byte order over the width, a field of a block, and a buffer after bytes were put at its front.
use Rattle.std.specs.Prelude.{ℕ, zero, suc, ◌+◌, ◌*◌, ◌/◌, ◌%◌, ◌<◌, List, [], ◌∷◌, ◌++◌, reverse, length, take, drop, get_or}

-- v in k bytes, the lowest first (little-endian) or the highest first (big-endian)
unfoldable pub low_first : ℕ → ℕ → List ℕ
low_first zero v = []
low_first (suc k) v = v % 256 ∷ low_first k (v / 256)

unfoldable pub high_first : ℕ → ℕ → List ℕ
high_first k v = reverse (low_first k v)

-- the number that bytes stand for, read the lowest first or the highest first
unfoldable pub from_low : List ℕ → ℕ
from_low [] = 0
from_low (b ∷ bs) = b + 256 * from_low bs

unfoldable pub from_high : List ℕ → ℕ
from_high bs = from_low (reverse bs)

-- the k bytes of a block that start at byte `at`
abbrev pub field : ℕ → ℕ → List ℕ → List ℕ
field at k block = take k (drop at block)

-- a buffer with `sent` in its first bytes and every other byte as before
abbrev pub front : List ℕ → List ℕ → List ℕ
front sent before = sent ++ drop (length sent) before

-- every element is a byte (past the end `get_or` gives 0)
abbrev pub AreBytes : List ℕ → Type 0
AreBytes bs = (i : ℕ) → get_or bs i 0 < 256
