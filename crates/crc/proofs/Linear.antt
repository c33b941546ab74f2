-- The bit step is linear over xor in register and message together, with no side condition; so is any run of bits.
use Prim.Native.Nat.{ℕ, zero, suc, ◌*◌, ◌/◌, ◌%◌, ◌^◌, ◌<◌}
use mathlib.Core.Path.{◌≡◌, refl, ap, ap₂, ◌∙◌}
use native.Mathlib.Omega.{arith}
use native.Mathlib.Nat.{zero-mul}
use lib.Bits.{bit_xor, xor_shr, xor_mod, xor_zero_l, xor_zero_r, xor_self}
use Rattle.crc.specs.Check.{polynomial, bit_step, bits_step, byte_step}
use Rattle.crc.proofs.Xor.{xor_shl, xor_middle}

-- a bit times a number: the xor of two bits goes over to their multiples
bit_times : (p x y : ℕ) → x < 2 → y < 2 → bit_xor x y * p ≡ bit_xor (x * p) (y * p)
bit_times p zero y hx hy = simp (zero-mul, xor_zero_l)
bit_times p (suc zero) zero hx hy = simp (zero-mul, xor_zero_r)
bit_times p (suc zero) (suc zero) hx hy = simp (zero-mul, xor_self)
bit_times p (suc zero) (suc (suc y)) hx hy = absurd (omega arith)
bit_times p (suc (suc x)) y hx hy = absurd (omega arith)

-- whether the polynomial is added
tops : (a c b d : ℕ) → bit_xor (bit_xor a c / 2 ^ 15) (bit_xor b d) % 2 ≡ bit_xor (bit_xor (a / 2 ^ 15) b % 2) (bit_xor (c / 2 ^ 15) d % 2)
tops a c b d =
    ap (λ (x : ℕ). bit_xor x (bit_xor b d) % 2) (xor_shr a c 15)
    ∙ ap (λ (x : ℕ). x % 2) (xor_middle (a / 2 ^ 15) (c / 2 ^ 15) b d)
    ∙ xor_mod (bit_xor (a / 2 ^ 15) b) (bit_xor (c / 2 ^ 15) d) 1

-- the register moved up by a bit
moved : (a c : ℕ) → bit_xor a c * 2 % 2 ^ 16 ≡ bit_xor (a * 2 % 2 ^ 16) (c * 2 % 2 ^ 16)
moved a c = ap (λ (x : ℕ). x % 2 ^ 16) (xor_shl a c 1) ∙ xor_mod (a * 2) (c * 2) 16

pub bit_linear : (a c b d : ℕ) → bit_step (bit_xor a c) (bit_xor b d) ≡ bit_xor (bit_step a b) (bit_step c d)
unfolding bit_step
bit_linear a c b d =
    let x = bit_xor (a / 2 ^ 15) b % 2 in
    let y = bit_xor (c / 2 ^ 15) d % 2 in
    ap₂ bit_xor (moved a c) (ap (λ (z : ℕ). z * polynomial) (tops a c b d) ∙ bit_times polynomial x y (omega arith) (omega arith))
    ∙ xor_middle (a * 2 % 2 ^ 16) (c * 2 % 2 ^ 16) (x * polynomial) (y * polynomial)

pub bits_linear : (k a c v w : ℕ) → bits_step (bit_xor a c) k (bit_xor v w) ≡ bit_xor (bits_step a k v) (bits_step c k w)
unfolding bits_step
bits_linear zero a c v w = refl
bits_linear (suc k) a c v w =
    ap (λ (x : ℕ). bits_step x k (bit_xor v w)) (ap (bit_step (bit_xor a c)) (xor_shr v w k) ∙ bit_linear a c (v / 2 ^ k) (w / 2 ^ k))
    ∙ bits_linear k (bit_step a (v / 2 ^ k)) (bit_step c (w / 2 ^ k)) v w

pub byte_linear : (a c v w : ℕ) → byte_step (bit_xor a c) (bit_xor v w) ≡ bit_xor (byte_step a v) (byte_step c w)
unfolding byte_step
byte_linear a c v w = bits_linear 8 a c v w
