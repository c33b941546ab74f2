-- Areas that writes from a fresh start can make.
use Rattle.std.specs.Prelude.{ℕ, ◌≤◌, ◌<◌, ◌≡◌, true, false, length}
use Rattle.mock_areas.specs.Slots.{slot_count, slot_size, free_slot, slot_at}
use Rattle.mock_areas.specs.declared.Areas.{Areas}

-- what the slots are after writes from a fresh start to a store of n bytes: there are eight; a held one uses its size at most; the held ones are the
-- lowest; no two are held by one number; a free one is as at first
pub record Filled (areas : Areas) (n : ℕ) : Type 0 where
  pub eight : length areas.slots ≡ slot_count
  pub within : (at : ℕ) → (slot_at areas at).held ≡ true → (slot_at areas at).used ≤ slot_size n
  pub lowest : (below at : ℕ) → below < at → (slot_at areas at).held ≡ true → (slot_at areas below).held ≡ true
  pub once : (a b : ℕ) → (slot_at areas a).held ≡ true → (slot_at areas b).held ≡ true → (slot_at areas a).number ≡ (slot_at areas b).number → a ≡ b
  pub free : (at : ℕ) → (slot_at areas at).held ≡ false → slot_at areas at ≡ free_slot
