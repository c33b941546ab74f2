-- A write to an area.
use Rattle.std.specs.Prelude.{ℕ, ◌+◌, ◌*◌, ◌≡◌, true, List, [], ◌∷◌, leb, ltb, length, set}
use Rattle.promise.specs.Told.{Told, given, refused}
use Rattle.promise.specs.Rules.{Rule, rule, or_refuse}
use Rattle.promise.specs.Over.{over}
use Rattle.mock_areas.specs.Slots.{slot_count, slot_size, slot_at, place}
use Rattle.mock_areas.specs.declared.Areas.{Areas}
use Rattle.mock_areas.specs.declared.Place.{Place}
use Rattle.mock_areas.specs.declared.AreaStep.{AreaStep}
use Rattle.promise.specs.Does.{Comes}
use Rattle.std.specs.Prelude.{Result}
use Rattle.mock_areas.specs.declared.AreaError.{AreaError}
use Rattle.std.specs.declared.result.Result.TheVariants.{Ok, Err}
use Rattle.mock_areas.specs.declared.AreaError.TheVariants as area_error

-- what is told, and the slots and the store afterwards
abbrev pub Appending : Type 0
Appending = Comes Unit Areas

-- the slot is held by the number, with so many bytes
unfoldable pub held_by : Areas → ℕ → ℕ → ℕ → Areas
held_by areas at number used = record { slots = set areas.slots at (record { held = true; number = number; used = used }) }

-- 58: new area number, 8 held; 59: held plus new above the slot
unfoldable pub append_rules : Place → ℕ → ℕ → List Rule
append_rules p new n = rule (leb slot_count p.slot) 58 [] ∷ rule (ltb (slot_size n) (p.used + new)) 59 [] ∷ []

-- a refusal changes nothing
abbrev pub refused_append : Areas → List ℕ → ℕ → List ℕ → Appending
refused_append areas store number values = record { told = refused number values; next = areas; leaves = store }

-- a write appends and touches its own slot only
unfoldable pub appended_at : Areas → Place → ℕ → List ℕ → List ℕ → Appending
appended_at areas p number bytes store =
    record {
      told = given tt;
      next = held_by areas p.slot number (p.used + length bytes);
      leaves = over (p.slot * slot_size (length store) + p.used) bytes store;
    }

unfoldable pub append_step : Areas → ℕ → List ℕ → List ℕ → Appending
append_step areas number bytes store =
    or_refuse (refused_append areas store) (append_rules (place number areas.slots) (length bytes) (length store))
    (appended_at areas (place number areas.slots) number bytes store)

-- 58 and 59
abbrev pub area_error_number : AreaError → ℕ
area_error_number area_error.NoSlot = 58
area_error_number area_error.SlotFull = 59

unfoldable pub area_told : Result Unit AreaError → Told Unit
area_told (Ok done) = given tt
area_told (Err area_error.NoSlot) = refused 58 []
area_told (Err area_error.SlotFull) = refused 59 []

-- an append that answers r and leaves the store `after`
pub record AppendMeets (r : AreaStep) (after : List ℕ) (a : Appending) : Type 0 where
  pub tells : area_told r.answer ≡ a.told
  pub next : r.areas ≡ a.next
  pub leaves : after ≡ a.leaves

-- slot k is held by the number from then on, with so many bytes, and every other slot is as it was
pub record TakesSlot (k number used : ℕ) (before after : Areas) : Type 0 where
  pub own : slot_at after k ≡ record { held = true; number = number; used = used }
  pub others : (i : ℕ) → (i ≡ k → ⊥) → slot_at after i ≡ slot_at before i
