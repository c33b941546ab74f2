-- How many bytes were read or written, of those that there was room for or that were to be written.
use Rattle.std.specs.Prelude.{ℕ, ◌≤◌, ◌≡◌, Bool, true, false}

-- `count` of `whole` bytes, and all of them unless there was an end (the input is over, the output takes no more)
abbrev pub Moved : Bool → ℕ → ℕ → Type 0
Moved ended count whole = (count ≤ whole) × (ended ≡ false → count ≡ whole)

-- a read that has failed is the last
abbrev pub EndsIf : Bool → Bool → Type 0
EndsIf failed ended = failed ≡ true → ended ≡ true
