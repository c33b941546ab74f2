-- Eight bytes as one number, without a table: x^64 is x^48 + x^20 + 1, the fourth power of x^16 = x^12 + x^5 + 1, so what stands before 64 bits goes
-- into them by shifts.
use Prim.Native.Nat.{ℕ, zero, suc, ◌+◌, ◌*◌, ◌/◌, ◌%◌, ◌^◌, ◌≤◌, ◌<◌}
use mathlib.Core.Path.{◌≡◌, refl, ap, ap₂, sym, subst, ◌∙◌}
use mathlib.Core.List.{List, [], ◌∷◌}
use native.Mathlib.Omega.{arith}
use native.Mathlib.Nat.{zero-mul, one-mul, zero-add, add-suc, suc-add, mod-lt, mul_assoc, pow-succ'}
use lib.ListN.{length, get_or, take, drop, length-take, length-drop, get_or-eq_default}
use lib.Dec.{ltb}
use Rattle.std.proofs.Common.{ltb-true, ltb-false}
use Rattle.promise.proofs.Outcome.{on_test}
use lib.Seq.{drop-drop, get_or-take, get_or-drop}
use Rattle.std.specs.Simd.{first_chunks}
use lib.Pow.{pow_pos, split, high, shl-shr, shr-shr, shr_lt}
use Rattle.std.specs.Int.{w64, byte_at, bytes_high_first, to_be_bytes, from_be_bytes}
use Rattle.std.proofs.lemmas.Nat.{from_be_bytes-to_be_bytes_8}
use lib.Bits.{bit_xor, xor_shr, xor_mod, xor_shifted, xor_zero_l, xor_zero_r, xor_self}
use Rattle.promise.specs.Bytes.{AreBytes}
use Rattle.crc.specs.Check.{polynomial, bit_step, bits_step, byte_step, crc_over}
use Rattle.crc.specs.Table.{rows}
use Rattle.crc.proofs.Xor.{xor_shl, xor_middle}
use Rattle.crc.proofs.Laws.{over_split}
use Rattle.crc.proofs.Linear.{bits_linear}
use Rattle.crc.proofs.Bytewise.{rows_same, listed}

-- goes over to both sides of a xor
abbrev Linear : (ℕ → ℕ) → Type 0
Linear f = (a b : ℕ) → f (bit_xor a b) ≡ bit_xor (f a) (f b)

both : (f g : ℕ → ℕ) → Linear f → Linear g → Linear (λ (s : ℕ). bit_xor (f s) (g s))
both f g lf lg a b = ap₂ bit_xor (lf a b) (lg a b) ∙ xor_middle (f a) (f b) (g a) (g b)

one_then : (f g : ℕ → ℕ) → Linear f → Linear g → Linear (λ (s : ℕ). g (f s))
one_then f g lf lg a b = ap g (lf a b) ∙ lg (f a) (f b)

down : (k : ℕ) → Linear (λ (s : ℕ). s / 2 ^ k)
down k a b = xor_shr a b k

up : (n k : ℕ) → Linear (λ (s : ℕ). s % 2 ^ n * 2 ^ k)
up n k a b = ap (λ (x : ℕ). x * 2 ^ k) (xor_mod a b n) ∙ xor_shl (a % 2 ^ n) (b % 2 ^ n) k

at_zero : (f : ℕ → ℕ) → Linear f → f 0 ≡ 0
at_zero f lf = lf 0 0 ∙ xor_self (f 0)

-- one digit in place n
digit : (f g : ℕ → ℕ) → Linear f → Linear g → (n : ℕ) → f (2 ^ n) ≡ g (2 ^ n) → (d : ℕ) → d < 2 → f (d * 2 ^ n) ≡ g (d * 2 ^ n)
digit f g lf lg n h zero l = ap f (zero-mul (2 ^ n)) ∙ at_zero f lf ∙ sym (ap g (zero-mul (2 ^ n)) ∙ at_zero g lg)
digit f g lf lg n h (suc zero) l = ap f (one-mul (2 ^ n)) ∙ h ∙ sym (ap g (one-mul (2 ^ n)))
digit f g lf lg n h (suc (suc d)) l = absurd (omega arith)

apart : (f : ℕ → ℕ) → Linear f → (n s : ℕ) → f s ≡ bit_xor (f (s / 2 ^ n * 2 ^ n)) (f (s % 2 ^ n))
apart f lf n s = ap f (sym (split s n) ∙ sym (xor_shifted (s / 2 ^ n) n (s % 2 ^ n) (mod-lt s (pow_pos n)))) ∙ lf (s / 2 ^ n * 2 ^ n) (s % 2 ^ n)

-- two that agree at each power of 2 agree at every number
agree : (f g : ℕ → ℕ) → Linear f → Linear g → (n : ℕ) → ((k : ℕ) → k < n → f (2 ^ k) ≡ g (2 ^ k)) → (s : ℕ) → s < 2 ^ n → f s ≡ g s
agree f g lf lg zero h zero l = at_zero f lf ∙ sym (at_zero g lg)
agree f g lf lg zero h (suc s) l = absurd (omega arith)
agree f g lf lg (suc n) h s l =
    let top : s / 2 ^ n < 2 = shr_lt 1 n (subst (λ (k : ℕ). s < 2 ^ k) (sym (suc-add 0 n ∙ ap suc (zero-add n))) l) in
    apart f lf n s
    ∙ ap₂ bit_xor (digit f g lf lg n (h n (omega arith)) (s / 2 ^ n) top)
    (agree f g lf lg n (λ k m. h k (omega arith)) (s % 2 ^ n) (mod-lt s (pow_pos n)))
    ∙ sym (apart g lg n s)

-- what runs out of 64 bits at x^48 and at x^20
unfoldable pub over : ℕ → ℕ
over s = bit_xor (s / 2 ^ 16) (s / 2 ^ 44)

-- all that is to stand at x^48, x^20 and 1: what runs out does so three times at most
unfoldable pub gathered : ℕ → ℕ
gathered s = bit_xor s (bit_xor (over s) (bit_xor (over (over s)) (over (over s) / 2 ^ 16)))

-- 64 bits moved up by 64
unfoldable pub folded : ℕ → ℕ
folded s = bit_xor (gathered s % 2 ^ 16 * 2 ^ 48) (bit_xor (gathered s % 2 ^ 44 * 2 ^ 20) (gathered s))

over_linear : Linear over
unfolding over
over_linear = both (λ (s : ℕ). s / 2 ^ 16) (λ (s : ℕ). s / 2 ^ 44) (down 16) (down 44)

gathered_linear : Linear gathered
unfolding gathered
gathered_linear =
    let twice = one_then over over over_linear over_linear in
    both (λ (s : ℕ). s) (λ (s : ℕ). bit_xor (over s) (bit_xor (over (over s)) (over (over s) / 2 ^ 16))) (λ a b. refl)
    (both over (λ (s : ℕ). bit_xor (over (over s)) (over (over s) / 2 ^ 16)) over_linear
    (both (λ (s : ℕ). over (over s)) (λ (s : ℕ). over (over s) / 2 ^ 16) twice
    (one_then (λ (s : ℕ). over (over s)) (λ (s : ℕ). s / 2 ^ 16) twice (down 16))))

folded_linear : Linear folded
unfolding folded
folded_linear =
    both (λ (s : ℕ). gathered s % 2 ^ 16 * 2 ^ 48) (λ (s : ℕ). bit_xor (gathered s % 2 ^ 44 * 2 ^ 20) (gathered s))
    (one_then gathered (λ (s : ℕ). s % 2 ^ 16 * 2 ^ 48) gathered_linear (up 16 48))
    (both (λ (s : ℕ). gathered s % 2 ^ 44 * 2 ^ 20) gathered (one_then gathered (λ (s : ℕ). s % 2 ^ 44 * 2 ^ 20) gathered_linear (up 44 20)) gathered_linear)

-- the register after 64 bits
abbrev pub over64 : ℕ → ℕ
over64 s = bits_step 0 64 s

linear64 : Linear over64
linear64 a b = bits_linear 64 0 0 a b

-- one computed test over the powers of 2
powers : (k : ℕ) → k < 64 → bits_step (over64 (2 ^ k)) 64 0 ≡ over64 (folded (2 ^ k))
unfolding rows bits_step bit_step over gathered folded
powers = rows_same (λ (k : ℕ). bits_step (over64 (2 ^ k)) 64 0) (λ (k : ℕ). over64 (folded (2 ^ k))) 64 refl

-- 64 zero bits behind 64 bits
moved_up : (s : ℕ) → s < 2 ^ 64 → bits_step (over64 s) 64 0 ≡ over64 (folded s)
moved_up =
    agree (λ (s : ℕ). bits_step (over64 s) 64 0) (λ (s : ℕ). over64 (folded s))
    (one_then over64 (λ (c : ℕ). bits_step c 64 0) linear64 (λ a b. bits_linear 64 a b 0 0)) (one_then folded over64 folded_linear linear64)
    64 powers

-- a register, and zero bits behind it, by one computed test over its bits
starts : (k : ℕ) → k < 16 → bits_step (2 ^ k) 64 0 ≡ over64 (2 ^ k * 2 ^ 48)
unfolding rows bits_step bit_step
starts = rows_same (λ (k : ℕ). bits_step (2 ^ k) 64 0) (λ (k : ℕ). over64 (2 ^ k * 2 ^ 48)) 16 refl

begun : (c : ℕ) → c < 2 ^ 16 → bits_step c 64 0 ≡ over64 (c * 2 ^ 48)
begun =
    agree (λ (c : ℕ). bits_step c 64 0) (λ (c : ℕ). over64 (c * 2 ^ 48)) (λ a b. bits_linear 64 a b 0 0)
    (one_then (λ (c : ℕ). c * 2 ^ 48) over64 (λ a b. xor_shl a b 48) linear64) 16 starts

-- a register and 64 bits are what the register makes of zero bits, xor what the bits make of no register
split64 : (c w : ℕ) → bits_step c 64 w ≡ bit_xor (bits_step c 64 0) (over64 w)
split64 c w = ap₂ (λ (x y : ℕ). bits_step x 64 y) (sym (xor_zero_r c)) (sym (xor_zero_l w)) ∙ bits_linear 64 c 0 0 w

-- 64 bits behind 64 bits
pub next_word : (s w : ℕ) → s < 2 ^ 64 → bits_step (over64 s) 64 w ≡ over64 (bit_xor (folded s) w)
next_word s w h = split64 (over64 s) w ∙ ap (λ (x : ℕ). bit_xor x (over64 w)) (moved_up s h) ∙ sym (linear64 (folded s) w)

-- 64 bits behind a register
pub first_word : (c w : ℕ) → c < 2 ^ 16 → bits_step c 64 w ≡ over64 (bit_xor (c * 2 ^ 48) w)
first_word c w h = split64 c w ∙ ap (λ (x : ℕ). bit_xor x (over64 w)) (begun c h) ∙ sym (linear64 (c * 2 ^ 48) w)

even : (v : ℕ) → bit_step 0 (v * 2) ≡ 0
unfolding bit_step
even v =
    let none : v * 2 % 2 ≡ 0 = omega arith in
    ap (λ (x : ℕ). x * polynomial) none

-- bits that are zeros
zeros_below : (k v : ℕ) → bits_step 0 k (v * 2 ^ k) ≡ 0
unfolding bits_step
zeros_below zero v = refl
zeros_below (suc k) v =
    ap (bits_step 0 (suc k)) (ap (λ (x : ℕ). v * x) (pow-succ' 2 k) ∙ sym (mul_assoc v 2 (2 ^ k)))
    ∙ ap (λ (x : ℕ). bits_step x k (v * 2 * 2 ^ k)) (ap (bit_step 0) (shl-shr (v * 2) k) ∙ even v)
    ∙ zeros_below k (v * 2)

-- a byte behind bits
byte_behind : (k c v b : ℕ) → b < 256 → bits_step c (8 + k) (v * 2 ^ 8 + b) ≡ byte_step (bits_step c k v) b
unfolding bits_step byte_step
byte_behind zero c v b h =
    ap₂ (λ (x y : ℕ). bits_step x 8 y) (sym (xor_zero_l c)) (sym (xor_shifted v 8 b h))
    ∙ bits_linear 8 0 c (v * 2 ^ 8) b
    ∙ ap (λ (x : ℕ). bit_xor x (bits_step c 8 b)) (zeros_below 8 v)
    ∙ xor_zero_l (bits_step c 8 b)
byte_behind (suc k) c v b h =
    ap (λ (m : ℕ). bits_step c m (v * 2 ^ 8 + b)) (add-suc 8 k)
    ∙ ap (λ (x : ℕ). bits_step (bit_step c x) (8 + k) (v * 2 ^ 8 + b)) (sym (shr-shr (v * 2 ^ 8 + b) 8 k) ∙ ap (λ (x : ℕ). x / 2 ^ k) (high v 8 h))
    ∙ byte_behind k (bit_step c (v / 2 ^ k)) v b h

-- bytes behind a number, as one
unfoldable pub joined : ℕ → List ℕ → ℕ
joined v [] = v
joined v (b ∷ bs) = joined (v * 2 ^ 8 + b) bs

bytes_behind : (bs : List ℕ) → AreBytes bs → (k c v : ℕ) → bits_step c (8 * length bs + k) (joined v bs) ≡ crc_over (bits_step c k v) bs
unfolding joined crc_over
bytes_behind [] h k c v = ap (λ (m : ℕ). bits_step c m v) (zero-add k)
bytes_behind (b ∷ bs) h k c v =
    let more : 8 * length (b ∷ bs) + k ≡ 8 * length bs + (8 + k) = omega arith in
    ap (λ (m : ℕ). bits_step c m (joined (v * 2 ^ 8 + b) bs)) more
    ∙ bytes_behind bs (λ i. h (suc i)) (8 + k) c (v * 2 ^ 8 + b)
    ∙ ap (λ (r : ℕ). crc_over r bs) (byte_behind k c v b (h 0))

-- eight bytes are 64 bits
pub eight_bytes : (c : ℕ) (bs : List ℕ) → AreBytes bs → length bs ≡ 8 → bits_step c 64 (joined 0 bs) ≡ crc_over c bs
unfolding bits_step
eight_bytes c bs h e =
    let bits : 64 ≡ 8 * length bs + 0 = omega arith in
    ap (λ (m : ℕ). bits_step c m (joined 0 bs)) bits ∙ bytes_behind bs h 0 c 0

-- eight bytes as one number
pub word_is : (p : List ℕ) → length p ≡ 8 → joined 0 p ≡ from_be_bytes w64 p
unfolding joined rows
word_is p e =
    let eight : p ≡ rows (λ (i : ℕ). get_or p i 0) 0 8 = sym (ap (rows (λ (i : ℕ). get_or p i 0) 0) (sym e) ∙ listed p) in
    ap (joined 0) eight ∙ (omega arith)

-- and its 64 bits
pub word_steps : (c : ℕ) (p : List ℕ) → AreBytes p → length p ≡ 8 → bits_step c 64 (from_be_bytes w64 p) ≡ crc_over c p
word_steps c p h e = ap (bits_step c 64) (sym (word_is p e)) ∙ eight_bytes c p h e

byte_small : (i n : ℕ) → byte_at i n < 256
byte_small zero n = omega arith
byte_small (suc i) n = mod-lt (n / 256 ^ suc i) (omega arith)

bytes_small : (k n : ℕ) → AreBytes (bytes_high_first k n)
bytes_small zero n i = omega arith
bytes_small (suc k) n zero = byte_small k n
bytes_small (suc k) n (suc i) = bytes_small k n i

-- 64 bits as eight bytes
pub as_bytes : (s : ℕ) → s < 2 ^ 64 → crc_over 0 (to_be_bytes w64 s) ≡ over64 s
as_bytes s h = sym (word_steps 0 (to_be_bytes w64 s) (bytes_small 8 s) refl) ∙ ap over64 (from_be_bytes-to_be_bytes_8 s h)

-- a chunk of eight stands where its number says
pub chunk_at : (k n : ℕ) (bs d : List ℕ) → k < n → get_or (first_chunks 8 n bs) k d ≡ take 8 (drop (k * 8) bs)
chunk_at k zero bs d h = absurd (omega arith)
chunk_at zero (suc n) bs d h = refl
chunk_at (suc k) (suc n) bs d h =
    let place : 8 + k * 8 ≡ suc k * 8 = omega arith in
    chunk_at k n (drop 8 bs) d (omega arith) ∙ ap (take 8) (drop-drop (k * 8) 8 bs ∙ ap (λ (i : ℕ). drop i bs) place)

part_small : (n i : ℕ) (bs : List ℕ) → AreBytes bs → AreBytes (take n (drop i bs))
part_small zero i bs h j = omega arith
part_small (suc n) i bs h j =
    on_test (ltb j (suc n))
    (λ inside. rw (get_or-take (suc n) (drop i bs) j 0 (ltb-true j (suc n) inside), get_or-drop i bs j 0) (h (i + j)))
    (λ past. rw (get_or-eq_default (take (suc n) (drop i bs)) 0 {n = j} (let l = ltb-false j (suc n) past in simp length-take (omega arith))) (omega arith))

-- a turn takes the next eight bytes, as one number
pub next_eight : (c v k n : ℕ) (words : List (List ℕ)) (bs : List ℕ) → AreBytes bs → n * 8 ≤ length bs → words ≡ first_chunks 8 n bs → k < n
    → v ≡ from_be_bytes w64 (get_or words k []) → crc_over (bits_step c 64 v) (drop ((k + 1) * 8) bs) ≡ crc_over c (drop (k * 8) bs)
next_eight c v k n words bs h room front more e =
    let part = take 8 (drop (k * 8) bs) in
    let here : get_or words k [] ≡ part = ap (λ (l : List (List ℕ)). get_or l k []) front ∙ chunk_at k n bs [] more in
    let eight : length part ≡ 8 = simp (length-take, length-drop) (omega arith) in
    let place : (k + 1) * 8 ≡ k * 8 + 8 = omega arith in
    ap₂ (λ (x i : ℕ). crc_over (bits_step c 64 x) (drop i bs)) (e ∙ ap (λ (w : List ℕ). from_be_bytes w64 w) here) place
    ∙ ap₂ (λ (r : ℕ) (l : List ℕ). crc_over r l) (word_steps c part (part_small 8 (k * 8) bs h) eight) (sym (drop-drop 8 (k * 8) bs))
    ∙ over_split c 8 (drop (k * 8) bs)
