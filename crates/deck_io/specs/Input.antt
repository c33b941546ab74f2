-- What was read of a deck, and how much of it is used.
use Rattle.std.specs.Prelude.{ℕ, ◌*◌, ◌/◌, Bool, true, false}

-- so many bytes of `count` that were read: all of them, or where a read has failed the whole blocks, since what is behind them need not be the
-- "short last block"
unfoldable pub usable_bytes : Bool → ℕ → ℕ
usable_bytes false count = count
usable_bytes true count = count / 512 * 512
