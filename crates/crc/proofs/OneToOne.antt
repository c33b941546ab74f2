-- The step is one-to-one in the register: over the same bytes two registers come to the same only if they are the same. Two bytes count as they meet
-- the register, so that over two bytes each, two equal registers come to the same only if the bytes are the same.
use Prim.Native.Nat.{ℕ, zero, suc, ◌*◌, ◌/◌, ◌%◌, ◌^◌, ◌<◌}
use mathlib.Core.Path.{◌≡◌, refl, ap, ap₂, sym, ◌∙◌}
use mathlib.Core.List.{List, [], ◌∷◌}
use native.Mathlib.Omega.{arith}
use native.Mathlib.Nat.{zero-div, mod-eq_of_lt}
use lib.Pow.{split}
use lib.Bits.{bit_xor, xor_lt, xor_shifted, xor_zero_l, xor_zero_r, xor_self, xor_comm}
use Rattle.promise.specs.Bytes.{low_first, high_first}
use Rattle.crc.specs.Check.{polynomial, bit_step, bits_step, byte_step, crc_over}
use Rattle.crc.proofs.Xor.{xor_twice}
use Rattle.crc.proofs.Linear.{bits_linear, byte_linear}
use Rattle.crc.proofs.Bytewise.{low_moves, meets_itself}
use Rattle.crc.proofs.Laws.{bit_lt, step_lt, xor_bytes, over_linear}

-- numbers that meet as 0 are the same
pub xor_nothing : (a b : ℕ) → bit_xor a b ≡ 0 → a ≡ b
xor_nothing a b e = sym (xor_twice a b) ∙ ap (λ (x : ℕ). bit_xor x b) e ∙ xor_zero_l b

-- a zero bit leaves no register 0 but 0: the polynomial is odd, and a register that moved up is even
by_top : (c top : ℕ) → c < 2 ^ 16 → c / 2 ^ 15 ≡ top → c * 2 % 2 ^ 16 ≡ top * polynomial → c ≡ 0
by_top c zero h t e = let moved : c * 2 % 2 ^ 16 ≡ c * 2 = mod-eq_of_lt (omega arith) in omega arith
by_top c (suc zero) h t e = let half : c * 2 % 2 ^ 16 ≡ 2 * (c % 2 ^ 15) = omega arith in absurd (omega arith)
by_top c (suc (suc top)) h t e = absurd (omega arith)

bit_zero : (c : ℕ) → c < 2 ^ 16 → bit_step c 0 ≡ 0 → c ≡ 0
unfolding bit_step
bit_zero c h e =
    let top : bit_xor (c / 2 ^ 15) 0 % 2 ≡ c / 2 ^ 15 = ap (λ (x : ℕ). x % 2) (xor_zero_r (c / 2 ^ 15)) ∙ (let l : c / 2 ^ 15 < 2 = omega arith in omega arith) in
    by_top c (c / 2 ^ 15) h refl
    (xor_nothing (c * 2 % 2 ^ 16) (bit_xor (c / 2 ^ 15) 0 % 2 * polynomial) e ∙ ap (λ (x : ℕ). x * polynomial) top)

bits_zero : (k c : ℕ) → c < 2 ^ 16 → bits_step c k 0 ≡ 0 → c ≡ 0
unfolding bits_step
bits_zero zero c h e = e
bits_zero (suc k) c h e =
    bit_zero c h (ap (bit_step c) (sym (zero-div (2 ^ k))) ∙ bits_zero k (bit_step c (0 / 2 ^ k)) (bit_lt c (0 / 2 ^ k)) e)

pub step_one_to_one : (c d b : ℕ) → c < 2 ^ 16 → d < 2 ^ 16 → byte_step c b ≡ byte_step d b → c ≡ d
unfolding byte_step
step_one_to_one c d b hc hd e =
    let gone : bits_step (bit_xor c d) 8 0 ≡ 0 =
    ap (bits_step (bit_xor c d) 8) (sym (xor_self b)) ∙ bits_linear 8 c d b b ∙ ap (λ (x : ℕ). bit_xor x (bits_step d 8 b)) e ∙ xor_self (bits_step d 8 b) in
    xor_nothing c d (bits_zero 8 (bit_xor c d) (xor_lt 16 c d hc hd) gone)

-- over any bytes
pub over_one_to_one : (bs : List ℕ) (c d : ℕ) → c < 2 ^ 16 → d < 2 ^ 16 → crc_over c bs ≡ crc_over d bs → c ≡ d
unfolding crc_over
over_one_to_one [] c d hc hd e = e
over_one_to_one (b ∷ bs) c d hc hd e = step_one_to_one c d b hc hd (over_one_to_one bs (byte_step c b) (byte_step d b) (step_lt c b hc) (step_lt d b hd) e)

-- a register's own two bytes take it to 0
own_bytes : (v : ℕ) → v < 2 ^ 16 → crc_over v (high_first 2 v) ≡ 0
unfolding crc_over high_first low_first
own_bytes v h =
    let high : v / 256 % 256 ≡ v / 256 = omega arith in
    let top : v / 256 < 256 = omega arith in
    let low : v % 256 < 256 = omega arith in
    let first : byte_step v (v / 256) ≡ v % 256 * 256 =
    ap₂ byte_step (sym (split v 8) ∙ sym (xor_shifted (v / 256) 8 (v % 256) low)) (sym (xor_zero_r (v / 256)))
    ∙ byte_linear (v / 256 * 256) (v % 256) (v / 256) 0
    ∙ ap₂ bit_xor (meets_itself (v / 256) top) (low_moves (v % 256) low)
    ∙ xor_zero_l (v % 256 * 256) in
    ap (λ (b : ℕ). byte_step (byte_step v b) (v % 256)) high
    ∙ ap (λ (c : ℕ). byte_step c (v % 256)) first
    ∙ meets_itself (v % 256) low

-- two bytes meet the register, and go through it as zeros
pub two_bytes_meet : (c v : ℕ) → v < 2 ^ 16 → crc_over c (high_first 2 v) ≡ crc_over (bit_xor c v) (0 ∷ 0 ∷ [])
unfolding high_first low_first xor_bytes
two_bytes_meet c v h =
    let bytes = high_first 2 v in
    let zeros : xor_bytes bytes bytes ≡ 0 ∷ 0 ∷ [] = ap₂ (λ (a b : ℕ). a ∷ b ∷ []) (xor_self (v / 256 % 256)) (xor_self (v % 256)) in
    sym (ap (crc_over (bit_xor c v)) (sym zeros) ∙ over_linear c v bytes bytes refl ∙ ap (bit_xor (crc_over c bytes)) (own_bytes v h) ∙ xor_zero_r (crc_over c bytes))

own_away : (c v : ℕ) → bit_xor c (bit_xor c v) ≡ v
own_away c v = xor_comm c (bit_xor c v) ∙ ap (λ (x : ℕ). bit_xor x c) (xor_comm c v) ∙ xor_twice v c

-- so two bytes that differ leave registers that differ
pub bytes_one_to_one : (c v w : ℕ) → c < 2 ^ 16 → v < 2 ^ 16 → w < 2 ^ 16 → crc_over c (high_first 2 v) ≡ crc_over c (high_first 2 w) → v ≡ w
bytes_one_to_one c v w hc hv hw e =
    let met : bit_xor c v ≡ bit_xor c w =
    over_one_to_one (0 ∷ 0 ∷ []) (bit_xor c v) (bit_xor c w) (xor_lt 16 c v hc hv) (xor_lt 16 c w hc hw) (sym (two_bytes_meet c v hv) ∙ e ∙ two_bytes_meet c w hw) in
    sym (own_away c v) ∙ ap (bit_xor c) met ∙ own_away c w
