-- What crates above cite: append, range, linearity over xor, and the check value.
use Prim.Native.Nat.{ℕ, zero, suc, ◌+◌, ◌-◌, ◌*◌, ◌/◌, ◌%◌, ◌^◌, ◌≤◌, ◌<◌}
use mathlib.Core.Path.{◌≡◌, refl, ap, sym, ◌∙◌}
use mathlib.Core.List.{List, [], ◌∷◌, ◌++◌}
use native.Mathlib.Numerals.{add-one}
use native.Mathlib.Omega.{arith}
use lib.ListN.{length, get_or, take, drop, take-append-drop, drop_of_length-le}
use lib.Seq.{drop-cons, drop-drop}
use lib.Bits.{bit_xor, xor_lt}
use Rattle.crc.specs.Check.{polynomial, bit_step, bits_step, byte_step, crc_over, check}
use Rattle.crc.proofs.Linear.{byte_linear}

pub over_empty : (c : ℕ) → crc_over c [] ≡ c
unfolding crc_over
over_empty c = refl

pub over_append : (c : ℕ) (xs ys : List ℕ) → crc_over c (xs ++ ys) ≡ crc_over (crc_over c xs) ys
unfolding crc_over
over_append c [] ys = refl
over_append c (x ∷ xs) ys = over_append (byte_step c x) xs ys

-- in two parts, cut anywhere
pub over_split : (c n : ℕ) (xs : List ℕ) → crc_over (crc_over c (take n xs)) (drop n xs) ≡ crc_over c xs
over_split c n xs = sym (over_append c (take n xs) (drop n xs)) ∙ ap (crc_over c) (take-append-drop n xs)

pub bit_lt : (c b : ℕ) → bit_step c b < 2 ^ 16
unfolding bit_step
bit_lt c b =
    let t = bit_xor (c / 2 ^ 15) b % 2 in
    xor_lt 16 (c * 2 % 2 ^ 16) (t * polynomial) (omega arith) (omega arith)

bits_lt : (k c v : ℕ) → c < 2 ^ 16 → bits_step c k v < 2 ^ 16
unfolding bits_step
bits_lt zero c v h = h
bits_lt (suc k) c v h = bits_lt k (bit_step c (v / 2 ^ k)) v (bit_lt c (v / 2 ^ k))

-- a register stays one
pub over_lt : (c : ℕ) (bs : List ℕ) → c < 2 ^ 16 → crc_over c bs < 2 ^ 16
unfolding crc_over byte_step
over_lt c [] h = h
over_lt c (b ∷ bs) h = over_lt (byte_step c b) bs (bits_lt 8 c b h)

pub step_lt : (c b : ℕ) → c < 2 ^ 16 → byte_step c b < 2 ^ 16
unfolding crc_over
step_lt c b h = over_lt c (b ∷ []) h

-- a turn of a loop takes the next byte
pub over_next : (c i : ℕ) (bs : List ℕ) → i < length bs → crc_over c (drop i bs) ≡ crc_over (byte_step c (get_or bs i 0)) (drop (i + 1) bs)
unfolding crc_over
over_next c i bs h = ap (crc_over c) (drop-cons bs i 0 h) ∙ ap (λ (k : ℕ). crc_over (byte_step c (get_or bs i 0)) (drop k bs)) (sym (add-one i))

-- a turn of a loop takes the next eight
pub next_eight : (c i : ℕ) (bs : List ℕ) → crc_over (crc_over c (take (i + 8 - i) (drop i bs))) (drop (i + 8) bs) ≡ crc_over c (drop i bs)
next_eight c i bs =
    let eight : i + 8 - i ≡ 8 = omega arith in
    ap (λ (k : ℕ). crc_over (crc_over c (take k (drop i bs))) (drop (i + 8) bs)) eight
    ∙ ap (crc_over (crc_over c (take 8 (drop i bs)))) (sym (drop-drop 8 i bs))
    ∙ over_split c 8 (drop i bs)

-- past the end nothing is left
pub over_past : (c i : ℕ) (bs : List ℕ) → length bs ≤ i → crc_over c (drop i bs) ≡ c
over_past c i bs h = ap (crc_over c) (drop_of_length-le bs h) ∙ over_empty c

-- byte by byte, as far as both go
unfoldable pub xor_bytes : List ℕ → List ℕ → List ℕ
xor_bytes [] ys = []
xor_bytes (x ∷ xs) [] = []
xor_bytes (x ∷ xs) (y ∷ ys) = bit_xor x y ∷ xor_bytes xs ys

-- linear in register and message together
pub over_linear : (a c : ℕ) (xs ys : List ℕ) → length xs ≡ length ys → crc_over (bit_xor a c) (xor_bytes xs ys) ≡ bit_xor (crc_over a xs) (crc_over c ys)
unfolding crc_over xor_bytes
over_linear a c [] [] e = refl
over_linear a c [] (y ∷ ys) e = absurd (omega arith)
over_linear a c (x ∷ xs) [] e = absurd (omega arith)
over_linear a c (x ∷ xs) (y ∷ ys) e =
    ap (λ (r : ℕ). crc_over r (xor_bytes xs ys)) (byte_linear a c x y)
    ∙ over_linear (byte_step a x) (byte_step c y) xs ys (omega arith)

-- P2: the check of `123456789`
pub check_value : check (0x31 ∷ 0x32 ∷ 0x33 ∷ 0x34 ∷ 0x35 ∷ 0x36 ∷ 0x37 ∷ 0x38 ∷ 0x39 ∷ []) ≡ 0x29B1
unfolding crc_over byte_step bits_step bit_step
check_value = refl
