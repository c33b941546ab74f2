-- The place's slot lies inside the store and the new bytes inside the slot, so the copy is the one part that changes.
use Prim.Native.Nat.{ℕ, ◌+◌, ◌-◌, ◌*◌, ◌<◌, ◌≤◌}
use mathlib.Core.Path.{◌≡◌, refl, ap, sym, ◌∙◌}
use mathlib.Core.List.{List}
use native.Mathlib.Omega.{arith}
use lib.ListN.{length}
use borrow.Author.Tests.{leb-true, leb-false}
use Rattle.promise.specs.Over.{over}
use Rattle.promise.proofs.Copied.{put_over}
use Rattle.mock_areas.specs.Slots.{slot_count, slot_size, place}
use Rattle.mock_areas.specs.Append.{area_told, appended_at}
use Rattle.mock_areas.proofs.Room.{slot_inside}
use Rattle.mock_areas.proofs.Finding.{place_below, place_beyond}
use Rattle.mock_areas.proofs.Cases.{no_slot, slot_full, appended}
use Rattle.mock_areas.proofs.Areas.append.Goals as goal
use Rattle.mock_areas.proofs.Areas.append.Goals.{Else-not-has_room}

-- it is the number's place, and one of the slots
placed : (c : Else-not-has_room) → (place c.args.number c.args.self.slots ≡ c.in-Some.place) × (c.in-Some.place.slot < slot_count)
placed c = place_below (place c.args.number c.args.self.slots) c.in-Some.place (sym c.place.ensures ∙ c.in-Some.is)

-- the new bytes fit the slot
fits-slot : (c : Else-not-has_room)
    → c.in-Some.place.used + length c.args.«data».now
    ≤ slot_size (length c.args.store.now)
fits-slot c =
    let p = c.in-Some.place in
    let a = c.args in
    leb-true (p.used + length a.«data».now) (slot_size (length a.store.now))
    (sym c.has_room.ensures ∙ c.if-not-has_room.false)

-- and so the store
fits-store : (c : Else-not-has_room)
    → c.in-Some.place.slot * slot_size (length c.args.store.now)
    + c.in-Some.place.used + length c.args.«data».now
    ≤ length c.args.store.now
fits-store c =
    let n = length c.args.store.now in
    let f = fits-slot c in
    omega (arith, slot_inside c.in-Some.place.slot n (placed c).1)

pub returns-in_default : goal.returns-in_default
unfolding area_told
returns-in_default c =
    let a = c.args in
    rw (no_slot a.self a.number a.«data».now a.store.now _ refl (place_beyond _ (sym c.place.ensures ∙ c.in_default.is)))
    (record { tells = refl; next = refl; leaves = refl })

pub returns-then-not-has_room : goal.returns-then-not-has_room
unfolding area_told
returns-then-not-has_room c =
    let a = c.args in
    let p = c.in-Some.place in
    let at = place_below (place a.number a.self.slots) p (sym c.place.ensures ∙ c.in-Some.is) in
    rw (slot_full a.self a.number a.«data».now a.store.now p (sym at.0) at.1
    (leb-false (p.used + length a.«data».now) (slot_size (length a.store.now))
    (sym c.has_room.ensures ∙ c.if-not-has_room.true)))
    (record { tells = refl; next = refl; leaves = refl })

pub overflow_mul-at : goal.overflow_mul-at
overflow_mul-at c = let f = fits-store (goal.at.overflow_mul-at c).Else-not-has_room in omega arith

pub overflow_add-at : goal.overflow_add-at
overflow_add-at c = let f = fits-store (goal.at.overflow_add-at c).Else-not-has_room in omega arith

pub overflow_add-at-2 : goal.overflow_add-at-2
overflow_add-at-2 c = let f = fits-store (goal.at.overflow_add-at-2 c).Else-not-has_room in omega arith

pub slice_bounds-copy_from_slice-end : goal.slice_bounds-copy_from_slice-end
slice_bounds-copy_from_slice-end c = let f = fits-store (goal.at.slice_bounds-copy_from_slice-end c).Else-not-has_room in omega arith

pub overflow_add-used : goal.overflow_add-used
overflow_add-used c = let f = fits-store (goal.at.overflow_add-used c).Else-not-has_room in omega arith

pub hold-requires : goal.hold-requires
hold-requires c = (placed (goal.at.hold-requires c).Else-not-has_room).1

pub returns : goal.returns
unfolding area_told appended_at
returns c =
    let a = c.args in
    let p = c.in-Some.place in
    let bytes = a.«data».now in
    let at = p.slot * slot_size (length a.store.now) + p.used in
    let fits = fits-slot (goal.at.returns c).Else-not-has_room in
    let place = placed (goal.at.returns c).Else-not-has_room in
    let k : at + length bytes - at ≡ length bytes = omega arith in
    let last = c.copy_from_slice.ensures.after in
    rw (appended a.self a.number bytes a.store.now p (sym place.0) place.1 fits)
    (record {
      tells = refl;
      next = c.hold.ensures;
      leaves =
          put_over at (at + length bytes - at) a.store.now c.copy_from_slice.new.self (ap length last ∙ sym k)
          ∙ ap (λ (l : List ℕ). over at l a.store.now) last;
    })
