-- Areas by their numbers: a write appends to its own area and leaves every other; two areas share no byte; an area's bytes are what its writes
-- appended.
use Prim.Native.Nat.{ℕ, ◌+◌, ◌*◌, ◌≤◌, ◌<◌}
use mathlib.Core.Path.{◌≡◌, refl, ap, sym, ◌∙◌}
use mathlib.Core.Logic.{◌⊎◌, inl, inr, ⊎_elim}
use mathlib.Core.Bool.{Bool, true, false}
use mathlib.Core.List.{List, [], ◌∷◌, ◌++◌}
use mathlib.Core.Option.{none, some}
use native.Mathlib.Omega.{arith}
use lib.Dec.{eqb, ltb}
use lib.ListN.{length, get_or, replicate, length-set, get_or-replicate, get_or-eq_default}
use lib.Seq.{get_or-set_same, get_or-set_other}
use borrow.Author.Tests.{ltb-true, ltb-false, lt-ltb, eqb-true, eqb-false, eq-eqb, ne_eqb, leb-false, not-true}
use Rattle.promise.specs.Told.{refused}
use Rattle.promise.specs.Rules.{pick}
use Rattle.promise.specs.Bytes.{field}
use Rattle.promise.specs.Over.{over}
use Rattle.promise.proofs.Over.{length_over, field_before, field_behind, field_grows}
use Rattle.promise.proofs.Outcome.{Met, by_test, on_test, either_way}
use Rattle.mock_areas.specs.Slots.{slot_count, slot_size, free_slot, fresh_areas, passes, first_at, held_at, is_held, used_at, place, area_found}
use Rattle.mock_areas.specs.Append.{Appending, held_by, append_rules, refused_append, appended_at, append_step}
use Rattle.mock_areas.specs.Contents.{bytes_at, contents, Sound, so_far, gains, Write, areas_after, store_after, gathered, Grows}
use Rattle.mock_areas.specs.declared.Area.{Area}
use Rattle.mock_areas.specs.declared.Areas.{Areas}
use Rattle.mock_areas.specs.declared.Place.{Place}
use Rattle.std.specs.Prelude.{Option}
use Rattle.mock_areas.specs.declared.Stretch.{Stretch}
use Rattle.mock_areas.proofs.Search.{found_passes, first_set, first_kept}
use Rattle.mock_areas.proofs.Room.{slot_end, slot_inside}
use Rattle.std.specs.declared.option.Option.TheVariants.{Some, None}

-- a slot that is held by one number is not held by another, and a free slot by none
held_by_one : (area : Area) (a b : ℕ) → (b ≡ a → ⊥) → passes (Some a) area ≡ true → passes (Some b) area ≡ false
unfolding passes
held_by_one area a b other h =
    on_test area.held
    (λ t. let e : area.number ≡ a = eqb-true area.number a (rw t at h) in
    rw t (ne_eqb area.number b (λ f. other (sym f ∙ e))))
    (λ t. rw t refl)

free_by_none : (area : Area) (b : ℕ) → passes None area ≡ true → passes (Some b) area ≡ false
unfolding passes
free_by_none area b h = rw (not-true area.held h) refl

is_held_lem : (area : Area) (a : ℕ) → passes (Some a) area ≡ true → area.held ≡ true
unfolding passes
is_held_lem area a h = on_test area.held (λ t. t) (λ t. let z : false ≡ true = rw t at h in t ∙ z)

-- where a write goes, its slot being one of the eight: not behind the slot that holds the number, and to no slot that another holds
module _ (number : ℕ) (slots : List Area) (eight : length slots ≡ slot_count) where
  first_of_number : (place number slots).slot < slot_count → (place number slots).slot ≤ held_at number slots
  unfolding place
  first_of_number =
      by_test (λ (q : Place). q.slot < slot_count → q.slot ≤ held_at number slots) (is_held number slots)
      (λ e h. omega arith)
      (λ e h. let f = ltb-false (held_at number slots) slot_count e in omega arith)

  no_other : (b : ℕ) → (b ≡ number → ⊥) → (place number slots).slot < slot_count
      → passes (Some b) (get_or slots (place number slots).slot free_slot) ≡ false
  unfolding place held_at
  no_other b other =
      by_test (λ (q : Place). q.slot < slot_count → passes (Some b) (get_or slots q.slot free_slot) ≡ false) (is_held number slots)
      (λ e h. held_by_one (get_or slots (held_at number slots) free_slot) number b other
      (found_passes (passes (Some number)) free_slot slots (omega arith)))
      (λ e h. free_by_none (get_or slots (first_at (passes None) slots) free_slot) b
      (found_passes (passes None) free_slot slots (omega arith)))

-- a held number's slot is held, and by no other number
module _ (areas : Areas) (store : List ℕ) (sound : Sound areas store) (b : ℕ) (h : is_held b areas.slots ≡ true) where
  held_passes : passes (Some b) (get_or areas.slots (held_at b areas.slots) free_slot) ≡ true
  unfolding held_at
  held_passes =
      let l = ltb-true (held_at b areas.slots) slot_count h in
      let k = sound.eight in
      found_passes (passes (Some b)) free_slot areas.slots (omega arith)

  held_slot : (get_or areas.slots (held_at b areas.slots) free_slot).held ≡ true
  held_slot = is_held_lem (get_or areas.slots (held_at b areas.slots) free_slot) b held_passes

  elsewhere : (i : ℕ) → passes (Some b) (get_or areas.slots i free_slot) ≡ false → held_at b areas.slots ≡ i → ⊥
  elsewhere i f e =
      let t : passes (Some b) (get_or areas.slots i free_slot) ≡ true = rw e at held_passes in
      let z : false ≡ true = sym f ∙ t in
      let n : ◌≡◌ {A = ℕ} 0 1 = ap (λ (x : Bool). pick x 1 0) z in
      omega arith

apart_slots : (areas : Areas) (store : List ℕ) → Sound areas store → (a b : ℕ) → (b ≡ a → ⊥) → is_held a areas.slots ≡ true
    → is_held b areas.slots ≡ true → held_at b areas.slots ≡ held_at a areas.slots → ⊥
apart_slots areas store sound a b other ha hb =
    elsewhere areas store sound b hb (held_at a areas.slots)
    (held_by_one (get_or areas.slots (held_at a areas.slots) free_slot) a b other (held_passes areas store sound a ha))

-- bytes put into slot i behind `used` others, the slot not being another's and none before it being the number's
module _ (areas : Areas) (number i used : ℕ) (bytes store : List ℕ) (sound : Sound areas store) (slot : i < slot_count)
    (room : used + length bytes ≤ slot_size (length store)) (first : i ≤ held_at number areas.slots)
    (own : (b : ℕ) → (b ≡ number → ⊥) → passes (Some b) (get_or areas.slots i free_slot) ≡ false) where
  inside : i * slot_size (length store) + used + length bytes ≤ length store
  inside = omega (arith, slot_inside i (length store) slot)

  long : length (over (i * slot_size (length store) + used) bytes store) ≡ length store
  long = length_over (i * slot_size (length store) + used) bytes store inside

  -- the number is found where the bytes went
  own_place : held_at number (held_by areas i number (used + length bytes)).slots ≡ i
  unfolding held_at held_by passes
  own_place =
      let h = sound.eight in
      first_set (passes (Some number)) free_slot areas.slots i (record { held = true; number = number; used = used + length bytes }) (omega arith)
      first (eq-eqb number number refl)

  own_used : used_at i (held_by areas i number (used + length bytes)).slots ≡ used + length bytes
  unfolding held_by
  own_used =
      let h = sound.eight in
      ap (λ (a : Area). a.used)
      (get_or-set_same areas.slots i (record { held = true; number = number; used = used + length bytes }) free_slot (omega arith))

  -- another slot's bytes and count are as they were
  beside : (j n : ℕ) → (j ≡ i → ⊥) → n ≤ slot_size (length store)
      → field (j * slot_size (length store)) n (over (i * slot_size (length store) + used) bytes store) ≡ field (j * slot_size (length store)) n store
  beside j n far full =
      let size = slot_size (length store) in
      on_test (ltb j i)
      (λ h. field_before (i * size + used) bytes store inside (j * size) n (omega (arith, slot_end j i size (ltb-true j i h))))
      (λ h. let l = ltb-false j i h in
      let less : i < j = omega (arith, far) in
      field_behind (i * size + used) bytes store inside (j * size) n (omega (arith, slot_end i j size less)))

  other_used : (j : ℕ) → (j ≡ i → ⊥) → used_at j (held_by areas i number (used + length bytes)).slots ≡ used_at j areas.slots
  unfolding held_by
  other_used j far =
      ap (λ (a : Area). a.used)
      (get_or-set_other areas.slots i j (record { held = true; number = number; used = used + length bytes }) free_slot far)

  own_bytes : contents number (held_by areas i number (used + length bytes)) (over (i * slot_size (length store) + used) bytes store)
      ≡ some (field (i * slot_size (length store)) used store ++ bytes)
  unfolding contents area_found bytes_at
  own_bytes =
      rw (own_place, lt-ltb i slot_count slot, long, own_used) (ap some (field_grows (i * slot_size (length store)) used bytes store inside))

  still_sound : Sound (held_by areas i number (used + length bytes)) (over (i * slot_size (length store) + used) bytes store)
  unfolding held_by
  still_sound =
      let x : Area = record { held = true; number = number; used = used + length bytes } in
      record {
        eight = length-set areas.slots i x ∙ sound.eight;
        within = λ at h.
            rw long
            (on_test (eqb at i)
            (λ e. rw (eqb-true at i e) (rw own_used room))
            (λ e. let far = eqb-false at i e in
            rw (other_used at far) (sound.within at (rw (get_or-set_other areas.slots i at x free_slot far) at h))));
      }

  -- every other number is found where it was
  module _ (b : ℕ) (other : b ≡ number → ⊥) where
    other_place : held_at b (held_by areas i number (used + length bytes)).slots ≡ held_at b areas.slots
    unfolding held_at held_by passes
    other_place =
        first_kept (passes (Some b)) free_slot areas.slots i (record { held = true; number = number; used = used + length bytes }) (own b other)
        (ne_eqb number b (λ e. other (sym e)))

    other_bytes : contents b (held_by areas i number (used + length bytes)) (over (i * slot_size (length store) + used) bytes store) ≡ contents b areas store
    unfolding contents area_found bytes_at
    other_bytes =
        let j = held_at b areas.slots in
        rw (other_place, long)
        (on_test (is_held b areas.slots)
        (λ h. let far = elsewhere areas store sound b h i (own b other) in
        let full : used_at j areas.slots ≤ slot_size (length store) = sound.within j (held_slot areas store sound b h) in
        rw (h, other_used j far) (ap some (beside j (used_at j areas.slots) far full)))
        (λ h. rw h refl))

-- what the number holds stands in its place's slot, up to what is used of it
held_so_far : (number : ℕ) (areas : Areas) (store : List ℕ)
    → field ((place number areas.slots).slot * slot_size (length store)) (place number areas.slots).used store ≡ so_far (contents number areas store)
unfolding contents area_found place bytes_at so_far
held_so_far number areas store = on_test (is_held number areas.slots) (λ h. rw h refl) (λ h. rw h refl)

grows_at : (number : ℕ) (bytes : List ℕ) (areas : Areas) (store : List ℕ) → Sound areas store
    → Met (append_rules (place number areas.slots) (length bytes) (length store))
    → Grows number bytes areas store (appended_at areas (place number areas.slots) number bytes store)
unfolding appended_at append_rules gains
grows_at number bytes areas store sound met =
    let p = place number areas.slots in
    let slot = leb-false slot_count p.slot met.0 in
    let room = ltb-false (slot_size (length store)) (p.used + length bytes) met.1.0 in
    let first = first_of_number number areas.slots sound.eight slot in
    let own : (b : ℕ) → (b ≡ number → ⊥) → passes (Some b) (get_or areas.slots p.slot free_slot) ≡ false =
    λ b other. no_other number areas.slots sound.eight b other slot in
    record {
      long = long areas number p.slot p.used bytes store sound slot room first own;
      sound = still_sound areas number p.slot p.used bytes store sound slot room first own;
      own =
          own_bytes areas number p.slot p.used bytes store sound slot room first own
          ∙ ap (λ (l : List ℕ). some (l ++ bytes)) (held_so_far number areas store);
      others = λ b other. other_bytes areas number p.slot p.used bytes store sound slot room first own b other;
    }

-- a write to a appends there and leaves every other area; a refused one leaves all
pub append_grows : (number : ℕ) (bytes : List ℕ) (areas : Areas) (store : List ℕ) → Sound areas store
    → Grows number bytes areas store (append_step areas number bytes store)
unfolding append_step gains
append_grows number bytes areas store sound =
    either_way (Grows number bytes areas store) (refused_append areas store) (append_rules (place number areas.slots) (length bytes) (length store))
    (appended_at areas (place number areas.slots) number bytes store)
    (λ n values. record { long = refl; sound = sound; own = refl; others = λ b other. refl })
    (grows_at number bytes areas store sound)

-- a refused write changes nothing
pub append_refused : (number : ℕ) (bytes : List ℕ) (areas : Areas) (store : List ℕ) (n : ℕ) (values : List ℕ)
    → (append_step areas number bytes store).told ≡ refused n values
    → ((append_step areas number bytes store).next ≡ areas) × ((append_step areas number bytes store).leaves ≡ store)
unfolding append_step appended_at
append_refused number bytes areas store n values =
    let p = place number areas.slots in
    either_way (λ (o : Appending). o.told ≡ refused n values → (o.next ≡ areas) × (o.leaves ≡ store)) (refused_append areas store)
    (append_rules p (length bytes) (length store)) (appended_at areas p number bytes store) (λ m vs e. (refl, refl))
    (λ met e. let z : ◌≡◌ {A = ℕ} 0 1 = cc in absurd (omega arith))

-- at first no number is held
pub fresh_sound : (store : List ℕ) → Sound fresh_areas store
unfolding fresh_areas
fresh_sound store =
    record {
      eight = refl;
      within = λ at h.
          let free : get_or (replicate slot_count free_slot) at free_slot ≡ free_slot =
          on_test (ltb at slot_count)
          (λ l. get_or-replicate slot_count at free_slot free_slot (ltb-true at slot_count l))
          (λ l. get_or-eq_default (replicate slot_count free_slot) free_slot (ltb-false at slot_count l)) in
          rw (ap (λ (a : Area). a.used) free) (omega arith);
    }

pub fresh_empty : (number : ℕ) (store : List ℕ) → contents number fresh_areas store ≡ none
unfolding contents area_found fresh_areas bytes_at held_at first_at passes
fresh_empty number store = refl

-- an area's bytes are what its writes appended, in order
pub areas_gather : (number : ℕ) (ws : List Write) (areas : Areas) (store : List ℕ) → Sound areas store
    → contents number (areas_after areas store ws) (store_after areas store ws) ≡ gathered number areas store ws (contents number areas store)
unfolding areas_after store_after gathered
areas_gather number [] areas store sound = refl
areas_gather number (w ∷ ws) areas store sound =
    let o = append_step areas w.number w.bytes store in
    let g = append_grows w.number w.bytes areas store sound in
    let now : contents number o.next o.leaves
    ≡ pick (eqb number w.number) (gains o.told w.bytes (contents number areas store)) (contents number areas store) =
    on_test (eqb number w.number)
    (λ e. rw (e, eqb-true number w.number e) g.own)
    (λ e. rw e (g.others number (eqb-false number w.number e))) in
    areas_gather number ws o.next o.leaves g.sound
    ∙ ap (gathered number o.next o.leaves ws) now

-- a number that is found is held, and stands at its slot's start
record Stands (areas : Areas) (number n start used : ℕ) : Type 0 where
  held : is_held number areas.slots ≡ true
  starts : start ≡ held_at number areas.slots * slot_size n
  counts : used ≡ used_at (held_at number areas.slots) areas.slots

found_stretch : Option Stretch → Stretch
found_stretch None = record { start = 0; length = 0 }
found_stretch (Some found) = found

stands : (areas : Areas) (number n start used : ℕ) → area_found areas number n ≡ Some (record { start = start; length = used }) → Stands areas number n start used
unfolding area_found found_stretch
stands areas number n start used e =
    on_test (is_held number areas.slots)
    (λ h. let here : Stretch = record { start = held_at number areas.slots * slot_size n; length = used_at (held_at number areas.slots) areas.slots } in
    let there : Stretch = record { start = start; length = used } in
    let f : Some here ≡ Some there = rw h at e in
    let s : here ≡ there = ap found_stretch f in
    record { held = h; starts = sym (ap (λ (x : Stretch). x.start) s); counts = sym (ap (λ (x : Stretch). x.length) s) })
    (λ h. let there : Stretch = record { start = start; length = used } in
    let none : Option Stretch = None in
    let f : none ≡ Some there = rw h at e in
    let z : ◌≡◌ {A = ℕ} 0 1 = cc in absurd (omega arith))

-- two areas never overlap
pub areas_apart : (a b : ℕ) (areas : Areas) (store : List ℕ) → Sound areas store → (b ≡ a → ⊥) → (s m t n : ℕ)
    → area_found areas a (length store) ≡ Some (record { start = s; length = m }) → area_found areas b (length store) ≡ Some (record { start = t; length = n }) → (s + m ≤ t) ⊎ (t + n ≤ s)
areas_apart a b areas store sound other s m t n ea eb =
    let x = stands areas a (length store) s m ea in
    let y = stands areas b (length store) t n eb in
    let i = held_at a areas.slots in
    let j = held_at b areas.slots in
    let size = slot_size (length store) in
    let u = sound.within i (held_slot areas store sound a x.held) in
    let v = sound.within j (held_slot areas store sound b y.held) in
    on_test (ltb i j)
    (λ h. inl (omega (arith, slot_end i j size (ltb-true i j h))))
    (λ h. on_test (ltb j i)
    (λ k. inr (omega (arith, slot_end j i size (ltb-true j i k))))
    (λ k. absurd (apart_slots areas store sound a b other x.held y.held (omega (arith, ltb-false i j h, ltb-false j i k)))))

outside_slot : (number : ℕ) (bytes : List ℕ) (areas : Areas) (store : List ℕ) (a n : ℕ)
    → (a + n ≤ (place number areas.slots).slot * slot_size (length store))
    ⊎ ((place number areas.slots).slot * slot_size (length store) + slot_size (length store) ≤ a)
    → Met (append_rules (place number areas.slots) (length bytes) (length store))
    → field a n (appended_at areas (place number areas.slots) number bytes store).leaves ≡ field a n store
unfolding appended_at append_rules
outside_slot number bytes areas store a n apart met =
    let p = place number areas.slots in
    let start = p.slot * slot_size (length store) + p.used in
    let slot = leb-false slot_count p.slot met.0 in
    let room = ltb-false (slot_size (length store)) (p.used + length bytes) met.1.0 in
    let inside : start + length bytes ≤ length store = omega (arith, slot_inside p.slot (length store) slot) in
    ⊎_elim
    (λ h. field_before start bytes store inside a n (omega arith))
    (λ h. field_behind start bytes store inside a n (omega arith))
    apart

-- whatever the record holds, a write touches the bytes of its place's slot only
pub slot_only : (number : ℕ) (bytes : List ℕ) (areas : Areas) (store : List ℕ) (a n : ℕ)
    → (a + n ≤ (place number areas.slots).slot * slot_size (length store))
    ⊎ ((place number areas.slots).slot * slot_size (length store) + slot_size (length store) ≤ a)
    → field a n (append_step areas number bytes store).leaves ≡ field a n store
unfolding append_step
slot_only number bytes areas store a n apart =
    let p = place number areas.slots in
    either_way (λ (o : Appending). field a n o.leaves ≡ field a n store) (refused_append areas store) (append_rules p (length bytes) (length store))
    (appended_at areas p number bytes store) (λ m values. refl) (outside_slot number bytes areas store a n apart)
