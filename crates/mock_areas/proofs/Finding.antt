-- What the search among the slots says of an area's bytes and of its place.
use Prim.Native.Nat.{ℕ, ◌*◌, ◌<◌, ◌≤◌}
use mathlib.Core.Path.{◌≡◌, refl, ap, sym}
use mathlib.Core.Bool.{Bool, true, false}
use mathlib.Core.List.{List}
use native.Mathlib.Omega.{arith}
use lib.Dec.{ltb}
use lib.ListN.{get_or}
use borrow.Author.Tests.{ltb-true, ltb-false}
use Rattle.std.specs.Prelude.{Option}
use Rattle.std.specs.declared.option.Option.TheVariants.{Some, None}
use Rattle.promise.specs.Rules.{pick}
use Rattle.mock_areas.specs.Slots.{slot_count, slot_size, free_slot, passes, first_at, held_at, is_held, place, among_slots, place_among, area_found}
use Rattle.mock_areas.specs.declared.Area.{Area}
use Rattle.mock_areas.specs.declared.Areas.{Areas}
use Rattle.mock_areas.specs.declared.Place.{Place}

clash : {A C : Type 0} {a : A} → None ≡ Some a → C
clash e = absurd (let z : ◌≡◌ {A = ℕ} 0 1 = cc in omega arith)

some_of : {A : Type 0} → A → Option A → A
some_of d None = d
some_of d (Some a) = a

-- a value that a test gives is the one behind it, and where none is given the test fails
picked : {A : Type 0} (test : Bool) (a b : A) → pick test (Some a) None ≡ Some b → (test ≡ true) × (a ≡ b)
unfolding some_of
picked true a b e = (refl, ap (some_of a) e)
picked false a b e = clash e

missed : {A : Type 0} (test : Bool) (a : A) → pick test (Some a) None ≡ None → test ≡ false
missed true a e = clash (sym e)
missed false a e = refl

pub among_below : (n at : ℕ) → among_slots n ≡ Some at → at < slot_count
unfolding among_slots
among_below n at e =
    let found = picked (ltb n slot_count) n at e in
    let here = found.1 in
    omega (arith, ltb-true n slot_count found.0)

pub place_below : (p q : Place) → place_among p ≡ Some q → (p ≡ q) × (q.slot < slot_count)
unfolding place_among
place_below p q e =
    let found = picked (ltb p.slot slot_count) p q e in
    let here = ap (λ (x : Place). x.slot) found.1 in
    (found.1, omega (arith, ltb-true p.slot slot_count found.0))

pub place_beyond : (p : Place) → place_among p ≡ None → slot_count ≤ p.slot
unfolding place_among
place_beyond p e = ltb-false p.slot slot_count (missed (ltb p.slot slot_count) p e)

module _ (areas : Areas) (number n : ℕ) where
  pub not_found : among_slots (first_at (passes (Some number)) areas.slots) ≡ None → area_found areas number n ≡ None
  unfolding among_slots area_found held_at
  not_found e = rw (missed (is_held number areas.slots) (held_at number areas.slots) e) refl

  pub found : (at : ℕ) → among_slots (first_at (passes (Some number)) areas.slots) ≡ Some at
      → area_found areas number n ≡ Some (record { start = at * slot_size n; length = (get_or areas.slots at free_slot).used })
  unfolding among_slots area_found held_at
  found at e =
      let t = picked (is_held number areas.slots) (held_at number areas.slots) at e in
      rw (t.0, t.1) refl

module _ (number : ℕ) (slots : List Area) where
  pub placed_held : (at : ℕ) → among_slots (first_at (passes (Some number)) slots) ≡ Some at
      → place_among (place number slots) ≡ Some (record { slot = at; used = (get_or slots at free_slot).used })
  unfolding among_slots place_among place held_at
  placed_held at e =
      let t = picked (is_held number slots) (held_at number slots) at e in
      rw (t.0, t.0, t.1) refl

  pub placed_free : (at : ℕ) → among_slots (first_at (passes (Some number)) slots) ≡ None → among_slots (first_at (passes None) slots) ≡ Some at
      → place_among (place number slots) ≡ Some (record { slot = at; used = 0 })
  unfolding among_slots place_among place held_at
  placed_free at e f =
      let t = picked (ltb (first_at (passes None) slots) slot_count) (first_at (passes None) slots) at f in
      rw (missed (is_held number slots) (held_at number slots) e, t.0, t.1) refl

  pub placed_nowhere : among_slots (first_at (passes (Some number)) slots) ≡ None → among_slots (first_at (passes None) slots) ≡ None
      → place_among (place number slots) ≡ None
  unfolding among_slots place_among place held_at
  placed_nowhere e f =
      rw (missed (is_held number slots) (held_at number slots) e, missed (ltb (first_at (passes None) slots) slot_count) (first_at (passes None) slots) f) refl
