-- An area's bytes by its number, and what writes make of them.
use Rattle.std.specs.Prelude.{ℕ, ◌≤◌, ◌≡◌, true, List, [], ◌∷◌, ◌++◌, eqb, length, get_or}
use Rattle.std.proofs.Math.Option.{Option, none, some}
use Rattle.promise.specs.Told.{Told, given, refused}
use Rattle.promise.specs.Rules.{pick}
use Rattle.promise.specs.Bytes.{field}
use Rattle.mock_areas.specs.Slots.{slot_count, slot_size, free_slot, used_at, area_found}
use Rattle.mock_areas.specs.Append.{Appending, append_step}
use Rattle.mock_areas.specs.declared.Areas.{Areas}
use Rattle.mock_areas.specs.declared.Stretch.{Stretch}
use Rattle.std.specs.Prelude.{Option as Optional}
use Rattle.std.specs.declared.option.Option.TheVariants.{Some, None}

-- `none` is not held, `some []` is held and empty
unfoldable pub bytes_at : Optional Stretch → List ℕ → Option (List ℕ)
bytes_at None store = none
bytes_at (Some found) store = some (field found.start found.length store)

unfoldable pub contents : ℕ → Areas → List ℕ → Option (List ℕ)
contents number areas store = bytes_at (area_found areas number (length store)) store

-- what writes from a fresh start keep: eight slots, and no held slot used beyond its size
pub record Sound (areas : Areas) (store : List ℕ) : Type 0 where
  pub eight : length areas.slots ≡ slot_count
  pub within : (at : ℕ) → (get_or areas.slots at free_slot).held ≡ true → used_at at areas.slots ≤ slot_size (length store)

-- an area's bytes after a write that was told so: nothing where it was refused, else appended, the area being held from then on
unfoldable pub so_far : Option (List ℕ) → List ℕ
so_far none = []
so_far (some bytes) = bytes

unfoldable pub gains : Told Unit → List ℕ → Option (List ℕ) → Option (List ℕ)
gains (given done) bytes before = some (so_far before ++ bytes)
gains (refused number values) bytes before = before

-- a write: its area and its bytes
pub record Write : Type 0 where
  pub number : ℕ
  pub bytes : List ℕ

abbrev pub step_of : Areas → List ℕ → Write → Appending
step_of areas store w = append_step areas w.number w.bytes store

-- what is left after all of a list of writes, refused ones among them
unfoldable pub areas_after : Areas → List ℕ → List Write → Areas
areas_after areas store [] = areas
areas_after areas store (w ∷ ws) = areas_after (step_of areas store w).next (step_of areas store w).leaves ws

unfoldable pub store_after : Areas → List ℕ → List Write → List ℕ
store_after areas store [] = store
store_after areas store (w ∷ ws) = store_after (step_of areas store w).next (step_of areas store w).leaves ws

-- what an area holds after them: the bytes of its own accepted writes, in order, behind what it held before
unfoldable pub gathered : ℕ → Areas → List ℕ → List Write → Option (List ℕ) → Option (List ℕ)
gathered number areas store [] before = before
gathered number areas store (w ∷ ws) before =
    gathered number (step_of areas store w).next (step_of areas store w).leaves ws
    (pick (eqb number w.number) (gains (step_of areas store w).told w.bytes before) before)

-- what a write told so makes of the areas and the store: its own area gains, every other stays
pub record Grows (number : ℕ) (bytes : List ℕ) (areas : Areas) (store : List ℕ) (o : Appending) : Type 0 where
  pub long : length o.leaves ≡ length store
  pub sound : Sound o.next o.leaves
  pub own : contents number o.next o.leaves ≡ gains o.told bytes (contents number areas store)
  pub others : (b : ℕ) → (b ≡ number → ⊥) → contents b o.next o.leaves ≡ contents b areas store
