-- Numbers and bytes as text, in ASCII, and such text read back.
use Rattle.std.specs.Prelude.{ℕ, zero, suc, ◌+◌, ◌-◌, ◌*◌, ◌/◌, ◌%◌, ◌≤◌, List, [], ◌∷◌, ◌++◌, ltb}
use Rattle.promise.specs.Rules.{pick}

-- the character of a digit below 16: `0` to `9` are 48 to 57, `a` to `f` are 97 to 102
unfoldable pub digit : ℕ → ℕ
digit value = pick (ltb value 10) (48 + value) (87 + value)

-- the digits of a number, those of its tenth part and then its last; 0 has none here. `most` bounds how many there are.
unfoldable pub digits : ℕ → ℕ → List ℕ
digits zero n = []
digits (suc most) zero = []
digits (suc most) (suc n) = digits most (suc n / 10) ++ (digit (suc n % 10) ∷ [])

-- a number in decimal: one digit at least, and no 0 in front of others. The tenth part of n has no more than n digits.
unfoldable pub decimal : ℕ → List ℕ
decimal n = digits n (n / 10) ++ (digit (n % 10) ∷ [])

-- two digits a byte, the high one first
unfoldable pub hex : List ℕ → List ℕ
hex [] = []
hex (b ∷ bs) = digit (b / 16) ∷ digit (b % 16) ∷ hex bs

-- the value of a digit's character
unfoldable pub value_of : ℕ → ℕ
value_of c = pick (ltb c 97) (c - 48) (c - 87)

-- decimal text read: each character more makes ten times of what stands before it
unfoldable pub read_on : ℕ → List ℕ → ℕ
read_on n [] = n
read_on n (c ∷ cs) = read_on (n * 10 + value_of c) cs

abbrev pub from_decimal : List ℕ → ℕ
from_decimal text = read_on 0 text

-- hex text read, two characters a byte
unfoldable pub from_hex : List ℕ → List ℕ
from_hex [] = []
from_hex (c ∷ []) = []
from_hex (c ∷ d ∷ cs) = (value_of c * 16 + value_of d) ∷ from_hex cs

-- `0` to `9`
abbrev pub IsDecimal : ℕ → Type 0
IsDecimal c = (48 ≤ c) × (c ≤ 57)

-- `a` to `f`
abbrev pub IsLetter : ℕ → Type 0
IsLetter c = (97 ≤ c) × (c ≤ 102)

-- each character of a text
abbrev pub Each : (ℕ → Type 0) → List ℕ → Type 0
Each P [] = Unit {0}
Each P (c ∷ cs) = P c × Each P cs
