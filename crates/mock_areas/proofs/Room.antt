-- Each slot lies inside its store, and no two slots share a byte.
use Prim.Native.Nat.{ℕ, ◌+◌, ◌*◌, ◌≤◌, ◌<◌}
use native.Mathlib.Nat.{mul-le-mul_right, suc-mul}
use native.Mathlib.Omega.{arith}
use Rattle.mock_areas.specs.Slots.{slot_count, slot_size}

-- a slot ends where the next one starts, or before
pub slot_end : (a b size : ℕ) → a < b → a * size + size ≤ b * size
slot_end a b size h = omega (arith, suc-mul a size, mul-le-mul_right size h)

pub slot_inside : (at n : ℕ) → at < slot_count → at * slot_size n + slot_size n ≤ n
slot_inside at n h = omega (arith, slot_end at slot_count (slot_size n) h)
