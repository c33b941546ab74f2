-- Areas that writes from a fresh start can make: the fresh ones are `Filled`, and every write, refused or not, keeps them so.
use Prim.Native.Nat.{ℕ, zero, suc, ◌+◌, ◌≤◌, ◌<◌}
use mathlib.Core.Path.{◌≡◌, refl, ap, sym, subst, ◌∙◌}
use mathlib.Core.Bool.{Bool, true, false}
use mathlib.Core.List.{List, [], ◌∷◌}
use native.Mathlib.Omega.{arith}
use lib.Dec.{eqb, ltb}
use lib.ListN.{length, get_or, replicate, length-set, get_or-replicate, get_or-eq_default}
use lib.Seq.{get_or-set_same, get_or-set_other}
use borrow.Author.Tests.{ltb-true, ltb-false, eqb-true, eqb-false, eq-eqb, leb-false, not-false}
use Rattle.promise.proofs.Outcome.{by_test, on_test, either_way}
use Rattle.mock_areas.specs.Slots.{slot_count, slot_size, free_slot, fresh_areas, passes, first_at, held_at, is_held, place, slot_at}
use Rattle.mock_areas.specs.Append.{held_by, append_rules, refused_append, Appending, appended_at, append_step, AppendMeets}
use Rattle.mock_areas.specs.Contents.{Sound}
use Rattle.mock_areas.specs.Reached.{Filled}
use Rattle.mock_areas.specs.declared.Area.{Area}
use Rattle.mock_areas.specs.declared.Areas.{Areas}
use Rattle.mock_areas.specs.declared.AreaStep.{AreaStep}
use Rattle.mock_areas.specs.declared.Place.{Place}
use Rattle.mock_areas.proofs.Search.{found_passes}
use Rattle.std.specs.declared.option.Option.TheVariants.{Some, None}

clash : {C : Type 0} → true ≡ false → C
clash e = absurd (let z : ◌≡◌ {A = ℕ} 0 1 = cc in omega arith)

-- what stands before the first that passes fails
before_fails : {A : Type 0} (test : A → Bool) (d : A) (xs : List A) (i : ℕ) → i < first_at test xs → test (get_or xs i d) ≡ false
unfolding first_at
before_fails test d [] i h = absurd (omega arith)
before_fails test d (x ∷ xs) zero h = on_test (test x) (λ e. let z : 0 < 0 = rw e at h in absurd (omega arith)) (λ e. e)
before_fails test d (x ∷ xs) (suc i) h =
    on_test (test x) (λ e. let z : suc i < 0 = rw e at h in absurd (omega arith))
    (λ e. let k : suc i < suc (first_at test xs) = rw e at h in before_fails test d xs i (omega arith))

-- at first every place is free
all_free : (at : ℕ) → slot_at fresh_areas at ≡ free_slot
unfolding fresh_areas
all_free at =
    on_test (ltb at slot_count)
    (λ l. get_or-replicate slot_count at free_slot free_slot (ltb-true at slot_count l))
    (λ l. get_or-eq_default (replicate slot_count free_slot) free_slot (ltb-false at slot_count l))

never_held : {C : Type 0} (at : ℕ) → (slot_at fresh_areas at).held ≡ true → C
never_held at h = clash (sym h ∙ ap (λ (a : Area). a.held) (all_free at))

pub fresh_filled : (n : ℕ) → Filled fresh_areas n
unfolding fresh_areas
fresh_filled n =
    record {
      eight = refl;
      within = λ at h. never_held at h;
      lowest = λ below at less h. never_held at h;
      once = λ a b h k e. never_held a h;
      free = λ at h. all_free at;
    }

-- one place is held by a number: those below it are held, and no other is held by that number
module _ (areas : Areas) (n : ℕ) (f : Filled areas n) (i number used : ℕ) (slot : i < slot_count) (room : used ≤ slot_size n)
    (below : (j : ℕ) → j < i → (slot_at areas j).held ≡ true)
    (own : (j : ℕ) → (slot_at areas j).held ≡ true → (slot_at areas j).number ≡ number → j ≡ i) where
  abbrev now : Area
  now = record { held = true; number = number; used = used }

  here : slot_at (held_by areas i number used) i ≡ now
  unfolding held_by
  here = let h = f.eight in get_or-set_same areas.slots i now free_slot (omega arith)

  there : (j : ℕ) → (j ≡ i → ⊥) → slot_at (held_by areas i number used) j ≡ slot_at areas j
  unfolding held_by
  there j far = get_or-set_other areas.slots i j now free_slot far

  -- by whether a place is that one
  at_place : {C : Type 0} (j : ℕ) → (j ≡ i → C) → ((j ≡ i → ⊥) → C) → C
  at_place j same other = on_test (eqb j i) (λ e. same (eqb-true j i e)) (λ e. other (eqb-false j i e))

  held_there : (j : ℕ) (b : Bool) → (j ≡ i → ⊥) → (slot_at (held_by areas i number used) j).held ≡ b → (slot_at areas j).held ≡ b
  held_there j b far h = ap (λ (a : Area). a.held) (sym (there j far)) ∙ h

  still_within : (at : ℕ) → (slot_at (held_by areas i number used) at).held ≡ true → (slot_at (held_by areas i number used) at).used ≤ slot_size n
  still_within at h =
      at_place at
      (λ e. subst (λ (j : ℕ). (slot_at (held_by areas i number used) j).used ≤ slot_size n) (sym e) (rw here room))
      (λ far. rw (there at far) (f.within at (held_there at true far h)))

  still_lowest : (lower at : ℕ) → lower < at → (slot_at (held_by areas i number used) at).held ≡ true → (slot_at (held_by areas i number used) lower).held ≡ true
  still_lowest lower at less h =
      at_place lower
      (λ e. subst (λ (j : ℕ). (slot_at (held_by areas i number used) j).held ≡ true) (sym e) (ap (λ (a : Area). a.held) here))
      (λ far.
      ap (λ (a : Area). a.held) (there lower far)
      ∙ at_place at (λ e. below lower (omega (arith, e))) (λ off. f.lowest lower at less (held_there at true off h)))

  -- another place that is held by the number is that one
  number_there : (j : ℕ) → (j ≡ i → ⊥) → (slot_at (held_by areas i number used) j).held ≡ true → (slot_at (held_by areas i number used) j).number ≡ number → j ≡ i
  number_there j far h e = own j (held_there j true far h) (ap (λ (a : Area). a.number) (sym (there j far)) ∙ e)

  number_here : (j : ℕ) → j ≡ i → (slot_at (held_by areas i number used) j).number ≡ number
  number_here j e = subst (λ (k : ℕ). (slot_at (held_by areas i number used) k).number ≡ number) (sym e) (ap (λ (a : Area). a.number) here)

  still_once : (a b : ℕ) → (slot_at (held_by areas i number used) a).held ≡ true → (slot_at (held_by areas i number used) b).held ≡ true
      → (slot_at (held_by areas i number used) a).number ≡ (slot_at (held_by areas i number used) b).number → a ≡ b
  still_once a b h k e =
      at_place a
      (λ s. at_place b (λ t. s ∙ sym t) (λ far. s ∙ sym (number_there b far k (sym e ∙ number_here a s))))
      (λ off. at_place b (λ t. number_there a off h (e ∙ number_here b t) ∙ sym t)
      (λ far.
      f.once a b (held_there a true off h) (held_there b true far k)
      (ap (λ (x : Area). x.number) (sym (there a off)) ∙ e ∙ ap (λ (x : Area). x.number) (there b far))))

  still_free : (at : ℕ) → (slot_at (held_by areas i number used) at).held ≡ false → slot_at (held_by areas i number used) at ≡ free_slot
  still_free at h =
      at_place at
      (λ e.
      let held : (slot_at (held_by areas i number used) at).held ≡ true =
      subst (λ (j : ℕ). (slot_at (held_by areas i number used) j).held ≡ true) (sym e) (ap (λ (a : Area). a.held) here) in
      clash (sym held ∙ h))
      (λ far. there at far ∙ f.free at (held_there at false far h))

  held_filled : Filled (held_by areas i number used) n
  unfolding held_by
  held_filled =
      record {
        eight = length-set areas.slots i now ∙ f.eight;
        within = still_within;
        lowest = still_lowest;
        once = still_once;
        free = still_free;
      }

-- a slot that passes for a number is held, and by it; one that passes for free is not held
by_number : (area : Area) (number : ℕ) → passes (Some number) area ≡ true → (area.held ≡ true) × (area.number ≡ number)
unfolding passes
by_number area number h =
    on_test area.held (λ t. (t, eqb-true area.number number (rw t at h))) (λ t. let z : false ≡ true = rw t at h in clash (sym z))

holds_number : (area : Area) (number : ℕ) → area.held ≡ true → area.number ≡ number → passes (Some number) area ≡ true
unfolding passes
holds_number area number h e = rw h (eq-eqb area.number number e)

not_free : (area : Area) → passes None area ≡ false → area.held ≡ true
unfolding passes
not_free area h = not-false area.held h

-- the place of a number, its slot being one of the eight: those below it are held, and no other is held by the number
module _ (areas : Areas) (n number : ℕ) (f : Filled areas n) where
  -- a held place is one of the eight
  one_of_eight : (j : ℕ) → (slot_at areas j).held ≡ true → j < slot_count
  one_of_eight j h =
      let l = f.eight in
      on_test (ltb j slot_count) (λ t. ltb-true j slot_count t)
      (λ t.
      let out : slot_at areas j ≡ free_slot = get_or-eq_default areas.slots free_slot (omega (arith, ltb-false j slot_count t)) in
      clash (sym h ∙ ap (λ (a : Area). a.held) out))

  below_place : (j : ℕ) → (place number areas.slots).slot < slot_count → j < (place number areas.slots).slot → (slot_at areas j).held ≡ true
  unfolding place held_at
  below_place j =
      let l = f.eight in
      by_test (λ (p : Place). p.slot < slot_count → j < p.slot → (slot_at areas j).held ≡ true) (is_held number areas.slots)
      (λ e h less.
      let found = found_passes (passes (Some number)) free_slot areas.slots (omega arith) in
      f.lowest j (held_at number areas.slots) less (by_number (slot_at areas (held_at number areas.slots)) number found).0)
      (λ e h less. not_free (slot_at areas j) (before_fails (passes None) free_slot areas.slots j less))

  own_place : (j : ℕ) → (place number areas.slots).slot < slot_count → (slot_at areas j).held ≡ true → (slot_at areas j).number ≡ number
      → j ≡ (place number areas.slots).slot
  unfolding place held_at
  own_place j =
      let l = f.eight in
      by_test (λ (p : Place). p.slot < slot_count → (slot_at areas j).held ≡ true → (slot_at areas j).number ≡ number → j ≡ p.slot) (is_held number areas.slots)
      (λ e h held same.
      let found = found_passes (passes (Some number)) free_slot areas.slots (omega arith) in
      let here = by_number (slot_at areas (held_at number areas.slots)) number found in
      f.once j (held_at number areas.slots) held here.0 (same ∙ sym here.1))
      (λ e h held same.
      let none : slot_count ≤ held_at number areas.slots = ltb-false (held_at number areas.slots) slot_count e in
      let less : j < held_at number areas.slots = omega (arith, none, one_of_eight j held) in
      clash (sym (holds_number (slot_at areas j) number held same) ∙ before_fails (passes (Some number)) free_slot areas.slots j less))

pub append_filled : (areas : Areas) (number : ℕ) (bytes store : List ℕ) → Filled areas (length store)
    → Filled (append_step areas number bytes store).next (length store)
unfolding append_step append_rules appended_at
append_filled areas number bytes store f =
    let p = place number areas.slots in
    let n = length store in
    either_way (λ (o : Appending). Filled o.next n) (refused_append areas store) (append_rules p (length bytes) n)
    (appended_at areas p number bytes store) (λ m values. f)
    (λ met.
    let slot = leb-false slot_count p.slot met.0 in
    held_filled areas n f p.slot number (p.used + length bytes) slot (ltb-false (slot_size n) (p.used + length bytes) met.1.0)
    (λ j less. below_place areas n number f j slot less) (λ j held same. own_place areas n number f j slot held same))

-- .. and so the areas that `Areas::append` hands back, refused or not
pub appended_filled : (areas : Areas) (number : ℕ) (bytes store after : List ℕ) (r : AreaStep) → Filled areas (length store)
    → AppendMeets r after (append_step areas number bytes store) → Filled r.areas (length store)
appended_filled areas number bytes store after r f m =
    subst (λ (a : Areas). Filled a (length store)) (sym m.next) (append_filled areas number bytes store f)

-- such areas are sound over any store of that length
pub filled_sound : (areas : Areas) (store : List ℕ) → Filled areas (length store) → Sound areas store
filled_sound areas store f = record { eight = f.eight; within = f.within }
