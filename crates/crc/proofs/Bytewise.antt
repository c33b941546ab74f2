-- The rule of the table, carried to every register and byte by linearity. The two facts on 256 cases are each one computed test.
use Prim.Native.Nat.{ℕ, zero, suc, ◌+◌, ◌*◌, ◌/◌, ◌%◌, ◌<◌}
use mathlib.Core.Path.{◌≡◌, refl, ap, ap₂, sym, ◌∙◌}
use mathlib.Core.List.{List}
use native.Mathlib.Omega.{arith}
use native.Mathlib.Nat.{add-zero, zero-add, add-suc, suc-add, le_of_suc-le-suc, not-suc-le-zero}
use lib.ListN.{length, get_or}
use lib.Seq.{ext_get_or}
use lib.Pow.{split}
use lib.Bits.{bit_xor, xor_shifted, xor_zero_l, xor_zero_r, xor_comm}
use Rattle.crc.specs.Check.{byte_step, bits_step, bit_step}
use Rattle.crc.specs.Table.{rows, entry}
use Rattle.crc.proofs.Xor.{xor_shl, xor_twice}
use Rattle.crc.proofs.Linear.{byte_linear}

rows_from : (f : ℕ → ℕ) (i n k : ℕ) → k < n → get_or (rows f i n) k 0 ≡ f (i + k)
unfolding rows
rows_from f i zero k h = absurd (not-suc-le-zero h)
rows_from f i (suc n) zero h = ap f (sym (add-zero i))
rows_from f i (suc n) (suc k) h = rows_from f (suc i) n k (le_of_suc-le-suc h) ∙ ap f (suc-add i k ∙ sym (add-suc i k))

-- an entry of a list of rows
pub rows_at : (f : ℕ → ℕ) (n k : ℕ) → k < n → get_or (rows f 0 n) k 0 ≡ f k
rows_at f n k h = rows_from f 0 n k h ∙ ap f (zero-add k)

pub rows_length : (f : ℕ → ℕ) (i n : ℕ) → length (rows f i n) ≡ n
unfolding rows
rows_length f i zero = refl
rows_length f i (suc n) = ap suc (rows_length f (suc i) n)

-- a list is its elements
pub listed : (l : List ℕ) → rows (λ (i : ℕ). get_or l i 0) 0 (length l) ≡ l
listed l = ext_get_or 0 _ l (rows_length _ 0 (length l)) (λ k h. rows_at _ (length l) k (rw (rows_length) at h))

-- two functions with the same rows agree: a fact on n cases is one computed test
pub rows_same : (f g : ℕ → ℕ) (n : ℕ) → rows f 0 n ≡ rows g 0 n → (k : ℕ) → k < n → f k ≡ g k
rows_same f g n e k h = sym (rows_at f n k h) ∙ ap (λ (l : List ℕ). get_or l k 0) e ∙ rows_at g n k h

-- a low byte only moves up
pub low_moves : (l : ℕ) → l < 256 → byte_step l 0 ≡ l * 256
unfolding rows byte_step bits_step bit_step
low_moves = rows_same (λ (i : ℕ). byte_step i 0) (λ (i : ℕ). i * 256) 256 refl

-- a byte that meets itself in the high half is gone
pub meets_itself : (b : ℕ) → b < 256 → byte_step (b * 256) b ≡ 0
unfolding rows byte_step bits_step bit_step
meets_itself = rows_same (λ (i : ℕ). byte_step (i * 256) i) (λ (i : ℕ). 0) 256 refl

-- the high half and the byte count only by their xor
pub high_half : (h b : ℕ) → b < 256 → byte_step (h * 256) b ≡ entry (bit_xor h b)
unfolding entry
high_half h b hb =
    ap₂ byte_step (ap (λ (x : ℕ). x * 256) (sym (xor_twice h b)) ∙ xor_shl (bit_xor h b) b 8) (sym (xor_zero_l b))
    ∙ byte_linear (bit_xor h b * 256) (b * 256) 0 b
    ∙ ap (bit_xor (byte_step (bit_xor h b * 256) 0)) (meets_itself b hb)
    ∙ xor_zero_r (byte_step (bit_xor h b * 256) 0)

-- byte-wise use of the table is the bit-wise definition, at every register and byte
pub bytewise : (c b : ℕ) → b < 256 → byte_step c b ≡ bit_xor (c % 256 * 256) (entry (bit_xor (c / 256) b))
bytewise c b hb =
    let l : c % 256 < 256 = omega arith in
    ap₂ byte_step (sym (split c 8) ∙ sym (xor_shifted (c / 256) 8 (c % 256) l)) (sym (xor_zero_r b))
    ∙ byte_linear (c / 256 * 256) (c % 256) b 0
    ∙ ap₂ bit_xor (high_half (c / 256) b hb) (low_moves (c % 256) l)
    ∙ xor_comm (entry (bit_xor (c / 256) b)) (c % 256 * 256)
