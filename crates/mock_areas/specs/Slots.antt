-- The slots of a store, and the slot of an area.
use Rattle.std.specs.Prelude.{ℕ, zero, suc, ◌*◌, ◌/◌, ◌<◌, ◌≡◌, Bool, true, false, not, List, [], ◌∷◌, eqb, ltb, get_or, replicate}
use Rattle.promise.specs.Rules.{pick}
use Rattle.mock_areas.specs.declared.Area.{Area}
use Rattle.mock_areas.specs.declared.Areas.{Areas}
use Rattle.mock_areas.specs.declared.Place.{Place}
use Rattle.mock_areas.specs.declared.Stretch.{Stretch}
use Rattle.std.specs.Prelude.{Option}
use Rattle.std.specs.declared.option.Option.TheVariants.{Some, None}

-- a store of n bytes has 8 slots of floor(n/8)
abbrev pub slot_count : ℕ
slot_count = 8

abbrev pub slot_size : ℕ → ℕ
slot_size n = n / slot_count

abbrev pub free_slot : Area
free_slot = record { held = false; number = 0; used = 0 }

-- at first every slot is free
unfoldable pub fresh_areas : Areas
fresh_areas = record { slots = replicate slot_count free_slot }

-- slot i of a record; a free one where there is none
abbrev pub slot_at : Areas → ℕ → Area
slot_at areas i = get_or areas.slots i free_slot

-- no slot is held by the number; all eight are held; k is the lowest slot that is free
abbrev pub NotAmong : ℕ → Areas → Type 0
NotAmong number areas = (i : ℕ) → i < slot_count → (slot_at areas i).held ≡ true → (slot_at areas i).number ≡ number → ⊥

abbrev pub AllHeld : Areas → Type 0
AllHeld areas = (i : ℕ) → i < slot_count → (slot_at areas i).held ≡ true

pub record LowestFree (k : ℕ) (areas : Areas) : Type 0 where
  pub slot : k < slot_count
  pub free : (slot_at areas k).held ≡ false
  pub below : (i : ℕ) → i < k → (slot_at areas i).held ≡ true

-- whether a slot is free, or held by this number
unfoldable pub passes : Option ℕ → Area → Bool
passes None area = not area.held
passes (Some n) area = pick area.held (eqb area.number n) false

-- the lowest place that passes a test; the list's length where none does
unfoldable pub first_at : {A : Type 0} → (A → Bool) → List A → ℕ
first_at test [] = zero
first_at test (a ∷ rest) = pick (test a) zero (suc (first_at test rest))

-- the slot that holds the number, and how many bytes it has
unfoldable pub held_at : ℕ → List Area → ℕ
held_at number slots = first_at (passes (Some number)) slots

abbrev pub is_held : ℕ → List Area → Bool
is_held number slots = ltb (held_at number slots) slot_count

abbrev pub used_at : ℕ → List Area → ℕ
used_at at slots = (get_or slots at free_slot).used

-- where a write goes: behind what its slot holds; a new area number takes the lowest free slot, from its start
unfoldable pub place : ℕ → List Area → Place
place number slots =
    pick (is_held number slots)
    (record { slot = held_at number slots; used = used_at (held_at number slots) slots })
    (record { slot = first_at (passes None) slots; used = 0 })

-- a place that is one of the slots, and a place in such a one; none where it is the slots' number
unfoldable pub among_slots : ℕ → Option ℕ
among_slots at = pick (ltb at slot_count) (Some at) None

unfoldable pub place_among : Place → Option Place
place_among p = pick (ltb p.slot slot_count) (Some p) None

-- where an area's bytes stand in a store of n bytes
unfoldable pub area_found : Areas → ℕ → ℕ → Option Stretch
area_found areas number n =
    pick (is_held number areas.slots)
    (Some (record { start = held_at number areas.slots * slot_size n; length = used_at (held_at number areas.slots) areas.slots }))
    None
