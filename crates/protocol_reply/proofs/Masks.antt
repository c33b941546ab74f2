-- A flag whose mask is one bit asks that this bit is set.
use Prim.Native.Nat.{ℕ, zero, suc, ◌+◌, ◌-◌, ◌/◌, ◌%◌, ◌*◌, ◌^◌, ◌<◌}
use mathlib.Core.Path.{◌≡◌, ap, sym, ◌∙◌}
use mathlib.Core.List.{List}
use native.Mathlib.Omega.{arith}
use borrow.Author.Tests.{eq-eqb, ne_eqb}
use lib.Bits.{bit_and, and_high}
use lib.Dec.{eqb}
use lib.ListN.{get_or}
use lib.Pow.{pow_pos, pow-add}
use Rattle.protocol_reply.specs.Flags.{flag_at, has_flag}

and_bit : (x place : ℕ) → bit_and x (2 ^ place) ≡ x / 2 ^ place % 2 * 2 ^ place
and_bit x place =
    let twice : 2 ^ (1 + place) - 2 ^ place ≡ 2 ^ place = omega (arith, pow-add 2 1 place) in
    sym (ap (bit_and x) twice) ∙ and_high x 1 place

digit_test : (d m : ℕ) → 0 < m → d < 2 → eqb (d * m) m ≡ eqb d 1
digit_test zero m h l = ne_eqb (0 * m) m (λ e. omega arith)
digit_test (suc zero) m h l = eq-eqb (1 * m) m (omega arith)
digit_test (suc (suc d)) m h l = absurd (omega arith)

pub asks_its_bit : (byte place : ℕ) (reply : List ℕ) → has_flag (flag_at byte (2 ^ place)) reply ≡ eqb (get_or reply byte 0 / 2 ^ place % 2) 1
asks_its_bit byte place reply =
    ap (λ (n : ℕ). eqb n (2 ^ place)) (and_bit (get_or reply byte 0) place)
    ∙ digit_test (get_or reply byte 0 / 2 ^ place % 2) (2 ^ place) (pow_pos place) (omega arith)
