-- A number that no slot is held by: it takes the lowest free slot, and 58 is given exactly where there is none. That a record has eight slots (`eight`)
-- is true of every value of its type.
use Prim.Native.Nat.{ℕ, ◌+◌, ◌*◌, ◌≤◌}
use mathlib.Core.Path.{◌≡◌, refl, ap, sym, ◌∙◌, subst}
use mathlib.Core.Bool.{true, false}
use mathlib.Core.List.{List, []}
use native.Mathlib.Omega.{arith}
use native.Mathlib.Nat.{add-zero, zero-add}
use lib.Dec.{leb, ltb}
use lib.ListN.{length, set}
use lib.Seq.{get_or-set_same, get_or-set_other}
use borrow.Author.Tests.{ltb-true, ltb-false, le-ltb, eqb-true, eq-eqb, leb-true, leb-false, not-true, not-false}
use Rattle.promise.specs.Told.{given, refused}
use Rattle.promise.specs.Over.{over}
use Rattle.promise.proofs.Outcome.{on_test}
use Rattle.promise.proofs.Over.{over_nothing}
use Rattle.mock_areas.specs.Slots.{slot_count, slot_size, free_slot, slot_at, NotAmong, AllHeld, LowestFree, passes, first_at, held_at, is_held, place}
use Rattle.mock_areas.specs.Append.{Appending, TakesSlot, held_by, appended_at, append_step, area_told, AppendMeets}
use Rattle.mock_areas.specs.declared.Area.{Area}
use Rattle.mock_areas.specs.declared.Areas.{Areas}
use Rattle.mock_areas.specs.declared.AreaStep.{AreaStep}
use Rattle.mock_areas.specs.declared.Place.{Place}
use Rattle.mock_areas.proofs.Search.{before_fails, not_before, not_behind}
use Rattle.mock_areas.proofs.Cases.{no_slot, slot_full, appended}
use Rattle.std.specs.Prelude.{Result}
use Rattle.mock_areas.specs.declared.AreaError.{AreaError}
use Rattle.std.specs.declared.result.Result.TheVariants.{Ok, Err}
use Rattle.mock_areas.specs.declared.AreaError.TheVariants as area_error
use Rattle.std.specs.declared.option.Option.TheVariants.{Some, None}

-- what the two tests of a slot say
free_is : (area : Area) → passes None area ≡ true → area.held ≡ false
unfolding passes
free_is area h = not-true area.held h

held_is : (area : Area) → passes None area ≡ false → area.held ≡ true
unfolding passes
held_is area h = not-false area.held h

is_free : (area : Area) → area.held ≡ false → passes None area ≡ true
unfolding passes
is_free area h = rw h

is_held_lem : (area : Area) → area.held ≡ true → passes None area ≡ false
unfolding passes
is_held_lem area h = rw h

is_number : (area : Area) (number : ℕ) → area.held ≡ true → area.number ≡ number → passes (Some number) area ≡ true
unfolding passes
is_number area number h e = rw (h, e) (eq-eqb number number refl)

number_is : (area : Area) (number : ℕ) → passes (Some number) area ≡ true → (area.held ≡ true) × (area.number ≡ number)
unfolding passes
number_is area number h =
    on_test area.held
    (λ t. (t, eqb-true area.number number (rw t at h)))
    (λ t. let z : false ≡ true = rw t at h in let n : ◌≡◌ {A = ℕ} 0 1 = cc in absurd (omega arith))

module _ (areas : Areas) (number : ℕ) (eight : length areas.slots ≡ slot_count) where
  -- not held, as the search for it says
  unheld : NotAmong number areas → slot_count ≤ held_at number areas.slots
  unfolding held_at
  unheld new =
      not_before (passes (Some number)) free_slot areas.slots slot_count (omega arith)
      (λ i l. on_test (passes (Some number) (slot_at areas i))
      (λ t. let here = number_is (slot_at areas i) number t in absurd (new i l here.0 here.1))
      (λ t. t))

  not_among : slot_count ≤ held_at number areas.slots → NotAmong number areas
  unfolding held_at
  not_among far i l held own =
      omega (arith, not_behind (passes (Some number)) free_slot areas.slots i (is_number (slot_at areas i) number held own))

  -- where a new number goes
  new_place : NotAmong number areas → place number areas.slots ≡ record { slot = first_at (passes None) areas.slots; used = 0 }
  unfolding place
  new_place new = rw (le-ltb (held_at number areas.slots) slot_count (unheld new)) refl

  lowest : (k : ℕ) → LowestFree k areas → first_at (passes None) areas.slots ≡ k
  lowest k here =
      let above = not_behind (passes None) free_slot areas.slots k (is_free (slot_at areas k) here.free) in
      let s = here.slot in
      let below = not_before (passes None) free_slot areas.slots k (omega arith) (λ i l. is_held_lem (slot_at areas i) (here.below i l)) in
      omega arith

-- 58 exactly where the number is not held and all eight slots are, by what an append tells
module _ (areas : Areas) (number : ℕ) (bytes store : List ℕ) (eight : length areas.slots ≡ slot_count) where
  pub no_slot_told : NotAmong number areas → AllHeld areas → (append_step areas number bytes store).told ≡ refused 58 []
  no_slot_told new all =
      let none = not_before (passes None) free_slot areas.slots slot_count (omega arith) (λ i l. is_held_lem (slot_at areas i) (all i l)) in
      ap (λ (a : Appending). a.told) (no_slot areas number bytes store _ (sym (new_place areas number eight new)) none)

  placed_nowhere : (append_step areas number bytes store).told ≡ refused 58 [] → slot_count ≤ (place number areas.slots).slot
  unfolding appended_at
  placed_nowhere told =
      let p = place number areas.slots in
      let size = slot_size (length store) in
      on_test (leb slot_count p.slot) (λ t. leb-true slot_count p.slot t)
      (λ t. let slot = leb-false slot_count p.slot t in
      on_test (ltb size (p.used + length bytes))
      (λ f. let full : refused 59 [] ≡ refused 58 [] =
      sym (ap (λ (a : Appending). a.told) (slot_full areas number bytes store p refl slot (ltb-true size (p.used + length bytes) f))) ∙ told in
      let z : ◌≡◌ {A = ℕ} 58 59 = cc in absurd (omega arith))
      (λ f. let done : given tt ≡ refused 58 [] =
      sym (ap (λ (a : Appending). a.told) (appended areas number bytes store p refl slot (ltb-false size (p.used + length bytes) f))) ∙ told in
      let z : ◌≡◌ {A = ℕ} 0 1 = cc in absurd (omega arith)))

  pub no_slot_means : (append_step areas number bytes store).told ≡ refused 58 [] → NotAmong number areas × AllHeld areas
  unfolding place
  no_slot_means told =
      let far = placed_nowhere told in
      on_test (is_held number areas.slots)
      (λ t. let here : slot_count ≤ held_at number areas.slots = rw t at far in
      let less = ltb-true (held_at number areas.slots) slot_count t in absurd (omega arith))
      (λ t. let none : slot_count ≤ first_at (passes None) areas.slots = rw t at far in (
        not_among areas number eight (ltb-false (held_at number areas.slots) slot_count t),
        λ i l. held_is (slot_at areas i) (before_fails (passes None) free_slot areas.slots i (omega arith)),
      ))

told_58 : (a : Result Unit AreaError) → area_told a ≡ refused 58 [] → a ≡ Err area_error.NoSlot
unfolding area_told
told_58 (Ok u) e = let z : ◌≡◌ {A = ℕ} 0 1 = cc in absurd (omega arith)
told_58 (Err area_error.NoSlot) e = refl
told_58 (Err area_error.SlotFull) e = let z : ◌≡◌ {A = ℕ} 58 59 = cc in absurd (omega arith)

told_done : (a : Result Unit AreaError) → area_told a ≡ given tt → a ≡ Ok tt
unfolding area_told
told_done (Ok u) e = refl
told_done (Err area_error.NoSlot) e = let z : ◌≡◌ {A = ℕ} 0 1 = cc in absurd (omega arith)
told_done (Err area_error.SlotFull) e = let z : ◌≡◌ {A = ℕ} 0 1 = cc in absurd (omega arith)

-- a new number is not refused, where a slot is free and the bytes fit its size, by what an append tells
pub new_number_told : (areas : Areas) (number : ℕ) (bytes store : List ℕ) → length areas.slots ≡ slot_count → (k : ℕ) → NotAmong number areas → LowestFree k areas
    → length bytes ≤ slot_size (length store) → (append_step areas number bytes store).told ≡ given tt
unfolding appended_at
new_number_told areas number bytes store eight k new here fits =
    let p : Place = record { slot = k; used = 0 } in
    let goes : p ≡ place number areas.slots =
    sym (new_place areas number eight new ∙ ap (λ (i : ℕ). record { slot = i; used = 0 }) (lowest areas number eight k here)) in
    ap (λ (a : Appending). a.told) (appended areas number bytes store p goes here.slot (omega arith))

-- a call of `append`
module _ (areas : Areas) (number : ℕ) (bytes store after : List ℕ) (r : AreaStep) (eight : length areas.slots ≡ slot_count)
    (meets : AppendMeets r after (append_step areas number bytes store)) where
  -- a write of a number that no slot is held by, where it is not refused, goes to the lowest free slot, from its start; also with no data
  pub takes_lowest_free : (k : ℕ) → NotAmong number areas → LowestFree k areas → r.answer ≡ Ok tt
      → TakesSlot k number (length bytes) areas r.areas × (after ≡ over (k * slot_size (length store)) bytes store)
  unfolding area_told appended_at held_by
  takes_lowest_free k new here written =
      let p : Place = record { slot = k; used = 0 } in
      let goes : p ≡ place number areas.slots =
      sym (new_place areas number eight new ∙ ap (λ (i : ℕ). record { slot = i; used = 0 }) (lowest areas number eight k here)) in
      let told : given tt ≡ (append_step areas number bytes store).told = sym (ap area_told written) ∙ meets.tells in
      let size = slot_size (length store) in
      on_test (ltb size (length bytes))
      (λ t.
      let over-full = ltb-true size (length bytes) t in
      let full = slot_full areas number bytes store p goes here.slot (omega arith) in
      let clash : given tt ≡ refused 59 [] = told ∙ ap (λ (a : Appending). a.told) full in
      let z : ◌≡◌ {A = ℕ} 0 1 = cc in absurd (omega arith))
      (λ t.
      let fits = ltb-false size (length bytes) t in
      let done = appended areas number bytes store p goes here.slot (omega arith) in
      let x : Area = record { held = true; number = number; used = length bytes } in
      let slots : r.areas ≡ record { slots = set areas.slots k x } = meets.next ∙ ap (λ (a : Appending). a.next) done
      ∙ ap (λ (n : ℕ). record { slots = set areas.slots k (record { held = true; number = number; used = n }) }) (zero-add (length bytes)) in
      let inside = here.slot in (
        record {
          own = ap (λ (a : Areas). slot_at a k) slots ∙ get_or-set_same areas.slots k x free_slot (omega arith);
          others = λ i far. ap (λ (a : Areas). slot_at a i) slots ∙ get_or-set_other areas.slots k i x free_slot far;
        },
        meets.leaves ∙ ap (λ (a : Appending). a.leaves) done ∙ ap (λ (at : ℕ). over at bytes store) (add-zero (k * size)),
      ))

  -- it is not refused, where a slot is free and the bytes fit its size ..
  pub new_number_written : (k : ℕ) → NotAmong number areas → LowestFree k areas → length bytes ≤ slot_size (length store) → r.answer ≡ Ok tt
  new_number_written k new here fits =
      told_done r.answer (meets.tells ∙ new_number_told areas number bytes store eight k new here fits)

  -- .. so that with no data it takes the lowest free slot, whatever the store's length, and no byte changes
  pub takes_with_no_data : (k : ℕ) → NotAmong number areas → LowestFree k areas → bytes ≡ []
      → (r.answer ≡ (Ok tt)) × TakesSlot k number 0 areas r.areas × (after ≡ store)
  takes_with_no_data k new here none =
      let empty : length bytes ≡ 0 = ap length none in
      let written = new_number_written k new here (omega arith) in
      let takes = takes_lowest_free k new here written in
      let at = k * slot_size (length store) in (
        written,
        subst (λ (n : ℕ). TakesSlot k number n areas r.areas) empty takes.0,
        takes.1 ∙ ap (λ (l : List ℕ). over at l store) none ∙ over_nothing at store,
      )

  -- 58 exactly where the number is not held and all eight slots are
  pub no_slot_exactly : (NotAmong number areas × AllHeld areas → r.answer ≡ (Err area_error.NoSlot)) × (r.answer ≡ (Err area_error.NoSlot) → NotAmong number areas × AllHeld areas)
  unfolding area_told
  no_slot_exactly = (
    (λ both. told_58 r.answer (meets.tells ∙ no_slot_told areas number bytes store eight both.0 both.1)),
    (λ e. no_slot_means areas number bytes store eight (sym meets.tells ∙ ap area_told e)),
  )
