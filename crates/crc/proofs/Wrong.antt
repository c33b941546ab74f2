-- Programs that the contracts rule out: `update` and `update_by_table` promise `r ≡ crc_over crc bytes`, `checksum` promises `r ≡ check bytes`.
use Prim.Native.Nat.{ℕ}
use mathlib.Core.Path.{◌≡◌, sym, ◌∙◌}
use mathlib.Core.List.{[], ◌∷◌, ◌++◌}
use native.Mathlib.Omega.{arith}
use lib.ListN.{replicate}
use Rattle.crc.specs.Check.{bit_step, bits_step, byte_step, crc_over, check}

-- an answer that does not look at the bytes, so also one fixed answer
pub bytes_unread : (r : ℕ) → r ≡ crc_over 0 [] → r ≡ crc_over 0 (1 ∷ []) → ⊥
unfolding crc_over byte_step bits_step bit_step
bytes_unread r none one = let differ : ◌≡◌ {A = ℕ} 0 0x1021 = sym none ∙ one in omega arith

-- an answer that does not look at the register
pub register_dropped : (r : ℕ) → r ≡ crc_over 0 [] → r ≡ crc_over 1 [] → ⊥
unfolding crc_over
register_dropped r none one = let differ : ◌≡◌ {A = ℕ} 0 1 = sym none ∙ one in omega arith

-- two words without the byte behind them
pub tail_left_out : (r : ℕ) → r ≡ crc_over 0 (replicate 16 0) → r ≡ crc_over 0 (replicate 16 0 ++ (1 ∷ [])) → ⊥
unfolding crc_over byte_step bits_step bit_step
tail_left_out r words all = let differ : ◌≡◌ {A = ℕ} 0 0x1021 = sym words ∙ all in omega arith

-- the register's two bytes in the other order
pub bytes_swapped : crc_over 0x0100 (1 ∷ []) ≡ crc_over 0x0001 (1 ∷ []) → ⊥
unfolding crc_over byte_step bits_step bit_step
bytes_swapped e = let differ : ◌≡◌ {A = ℕ} 0 0x1121 = e in omega arith

-- a check that starts at 0
pub started_at_zero : (r : ℕ) → r ≡ crc_over 0 [] → r ≡ check [] → ⊥
unfolding crc_over
started_at_zero r zero begun = let differ : ◌≡◌ {A = ℕ} 0 0xFFFF = sym zero ∙ begun in omega arith

-- one check for every message
pub fixed_check : (r : ℕ) → r ≡ check [] → r ≡ check (0 ∷ []) → ⊥
unfolding crc_over byte_step bits_step bit_step
fixed_check r none one = let differ : ◌≡◌ {A = ℕ} 0xFFFF 0xE1F0 = sym none ∙ one in omega arith
