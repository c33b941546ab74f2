-- "Kinds: 4; 8 at sector 127, count 1; 8 at 128, count 1, give in whole": the three lines, character by character; and one of a short transfer.
use mathlib.Core.Path.{◌≡◌, refl}
use mathlib.Core.List.{[], ◌∷◌}
use Rattle.promise.specs.Told.{given, refused, number}
use Rattle.operation_finish.specs.Transfer.{whole, short}
use Rattle.operation_finish.specs.Reply.{capability, moved}
use Rattle.deck_line.specs.Digits.{digit, digits, decimal, hex}
use Rattle.deck_line.specs.Line.{value_by, told_by, transfer_text, line_text}

-- "1 0 0900000000000000"
pub first_line : line_text 1 (given (capability (record { 0 = 9 ∷ 0 ∷ 0 ∷ 0 ∷ 0 ∷ 0 ∷ 0 ∷ 0 ∷ [] })))
    ≡ 49 ∷ 32 ∷ 48 ∷ 32 ∷ 48 ∷ 57 ∷ 48 ∷ 48 ∷ 48 ∷ 48 ∷ 48 ∷ 48 ∷ 48 ∷ 48 ∷ 48 ∷ 48 ∷ 48 ∷ 48 ∷ 48 ∷ 48 ∷ 10 ∷ []
unfolding line_text told_by value_by transfer_text number decimal digits digit hex
first_line = refl

-- "2 0 512"
pub second_line : line_text 2 (given (moved (whole 512))) ≡ 50 ∷ 32 ∷ 48 ∷ 32 ∷ 53 ∷ 49 ∷ 50 ∷ 10 ∷ []
unfolding line_text told_by value_by transfer_text number decimal digits digit hex
second_line = refl

-- "3 57 -"
pub third_line : line_text 3 (refused 57 []) ≡ 51 ∷ 32 ∷ 53 ∷ 55 ∷ 32 ∷ 45 ∷ 10 ∷ []
unfolding line_text told_by value_by transfer_text number decimal digits digit hex
third_line = refl

-- `2 0 7680/8192`, which no deck prints: 7,680 bytes moved of 8,192
pub short_line : line_text 2 (given (moved (short 7680 8192)))
    ≡ 50 ∷ 32 ∷ 48 ∷ 32 ∷ 55 ∷ 54 ∷ 56 ∷ 48 ∷ 47 ∷ 56 ∷ 49 ∷ 57 ∷ 50 ∷ 10 ∷ []
unfolding line_text told_by value_by transfer_text number decimal digits digit hex
short_line = refl

-- the longest number has 20 digits
pub last_number : decimal 18446744073709551615
    ≡ 49 ∷ 56 ∷ 52 ∷ 52 ∷ 54 ∷ 55 ∷ 52 ∷ 52 ∷ 48 ∷ 55 ∷ 51 ∷ 55 ∷ 48 ∷ 57 ∷ 53 ∷ 53 ∷ 49 ∷ 54 ∷ 49 ∷ 53 ∷ []
unfolding decimal digits digit
last_number = refl
