-- Byte order read back, over the width.
use Prim.Native.Nat.{ℕ, zero, suc, ◌+◌, ◌*◌, ◌/◌, ◌%◌, ◌^◌, ◌<◌, ◌≤◌}
use mathlib.Core.Path.{◌≡◌, refl, ap, sym, ◌∙◌}
use mathlib.Core.List.{List, [], ◌∷◌, ◌++◌, reverse, reverse-reverse}
use native.Mathlib.Nat.{div-lt_iff_lt-mul, pow-suc}
use lib.Dec.{lit<}
use native.Mathlib.Omega.{arith}
use lib.ListN.{length, get_or, length-reverse}
use Rattle.promise.specs.Bytes.{low_first, high_first, from_low, from_high, AreBytes}

pub length_low_first : (k v : ℕ) → length (low_first k v) ≡ k
unfolding low_first
length_low_first zero v = refl
length_low_first (suc k) v = ap suc (length_low_first k (v / 256))

pub length_high_first : (k v : ℕ) → length (high_first k v) ≡ k
unfolding high_first
length_high_first k v = length-reverse (low_first k v) ∙ length_low_first k v

-- what k bytes can hold is read back
pub from_low_first : (k v : ℕ) → v < 256 ^ k → from_low (low_first k v) ≡ v
unfolding low_first from_low
from_low_first zero v h = omega arith
from_low_first (suc k) v h =
    let q : v / 256 < 256 ^ k = (div-lt_iff_lt-mul (lit< tt)).1 (rw pow-suc at h) in
    rw (from_low_first k (v / 256) q) (omega arith)

pub from_high_first : (k v : ℕ) → v < 256 ^ k → from_high (high_first k v) ≡ v
unfolding high_first from_high
from_high_first k v h = rw (reverse-reverse) (from_low_first k v h)

-- bytes are what their number is written as
pub low_first_from : (bs : List ℕ) → AreBytes bs → low_first (length bs) (from_low bs) ≡ bs
unfolding low_first from_low
low_first_from [] h = refl
low_first_from (b ∷ bs) h =
    let hb : b < 256 = h 0 in
    let e : (b + 256 * from_low bs) % 256 ≡ b = omega arith in
    let q : (b + 256 * from_low bs) / 256 ≡ from_low bs = omega arith in
    rw (e, q, low_first_from bs (λ i. h (suc i))) refl

pub from_low_lt : (bs : List ℕ) → AreBytes bs → from_low bs < 256 ^ length bs
unfolding from_low
from_low_lt [] h = omega arith
from_low_lt (b ∷ bs) h =
    let hb : b < 256 = h 0 in
    let q : from_low bs < 256 ^ length bs = from_low_lt bs (λ i. h (suc i)) in
    rw pow-suc (omega arith)
