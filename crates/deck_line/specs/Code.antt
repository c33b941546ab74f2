-- What the private functions of the code do to a line, whatever it holds.
use Rattle.std.specs.Prelude.{ℕ, ◌+◌, ◌≤◌, ◌≡◌, List, [], ◌∷◌, length, set, ltb}
use Rattle.promise.specs.Rules.{pick}
use Rattle.deck_line.specs.declared.Line.{Line}
use Rattle.deck_line.specs.Line.{longest_line}

-- one byte more, where there is room
unfoldable pub put_on : Line → ℕ → Line
put_on l byte = pick (ltb l.used longest_line) (record { bytes = set l.bytes l.used byte; used = l.used + 1 }) l

-- one after the other
unfoldable pub put_all : Line → List ℕ → Line
put_all l [] = l
put_all l (b ∷ bs) = put_all (put_on l b) bs

-- a line l with the text of a value, which is short
pub record PutShort (r l : Line) (text : List ℕ) : Type 0 where
  pub all : r ≡ put_all l text
  pub short : length text ≤ 32
