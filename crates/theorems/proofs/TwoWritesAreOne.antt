-- Two writes to one area of which neither is refused are one write of the bytes of both: the second goes to the slot that the first took, behind its
-- bytes.
use Prim.Native.Nat.{ℕ, ◌+◌, ◌*◌, ◌<◌, ◌≤◌}
use mathlib.Core.Path.{◌≡◌, refl, ap, ap₂, sym, ◌∙◌}
use mathlib.Core.Bool.{true}
use mathlib.Core.List.{List, ◌++◌, append_assoc}
use native.Mathlib.Nat.{add_assoc}
use native.Mathlib.Omega.{arith}
use lib.ListN.{length, take, drop, set, length-append}
use lib.Seq.{length-take-le, take_at, drop-drop, get_or-set_same, set-set}
use borrow.Author.Tests.{leb-false, ltb-false, lt-ltb, eq-eqb}
use Rattle.promise.specs.Told.{given}
use Rattle.promise.specs.Over.{over}
use Rattle.promise.proofs.Over.{length_over, drop_over}
use Rattle.promise.proofs.Outcome.{by_test, passed}
use Rattle.mock_areas.specs.declared.Area.{Area}
use Rattle.mock_areas.specs.declared.Areas.{Areas}
use Rattle.mock_areas.specs.declared.Place.{Place}
use Rattle.mock_areas.specs.Slots.{slot_count, slot_size, free_slot, passes, held_at, is_held, used_at, place}
use Rattle.mock_areas.specs.Append.{Appending, held_by, append_rules, refused_append, appended_at, append_step}
use Rattle.mock_areas.proofs.Search.{first_set}
use Rattle.mock_areas.proofs.Room.{slot_inside}
use Rattle.mock_areas.proofs.Cases.{appended}
use Rattle.std.specs.declared.option.Option.TheVariants.{Some}

-- bytes put behind bytes that were just put
over_join : (at : ℕ) (xs ys before : List ℕ) → at + length xs ≤ length before → over (at + length xs) ys (over at xs before) ≡ over at (xs ++ ys) before
unfolding over
over_join at xs ys before inside =
    let head = take at before ++ xs in
    let mid = at + length xs in
    let long : length head ≡ mid = simp length-append (omega (arith, length-take-le at before (omega arith))) in
    let shape : over at xs before ≡ head ++ drop mid before = sym (append_assoc (take at before) xs (drop mid before)) in
    let first : take mid (over at xs before) ≡ head = ap (take mid) shape ∙ take_at head (drop mid before) mid long in
    let rest : drop (mid + length ys) (over at xs before) ≡ drop (at + length (xs ++ ys)) before =
    sym (drop-drop (length ys) mid (over at xs before)) ∙ ap (drop (length ys)) (drop_over at xs before inside) ∙ drop-drop (length ys) mid before
    ∙ ap (λ (n : ℕ). drop n before) (add_assoc at (length xs) (length ys) ∙ ap (λ (n : ℕ). at + n) (sym (length-append xs ys))) in
    ap₂ (λ (l r : List ℕ). l ++ (ys ++ r)) first rest ∙ append_assoc (take at before) xs (ys ++ drop (at + length (xs ++ ys)) before)
    ∙ ap (λ (l : List ℕ). take at before ++ l) (sym (append_assoc xs ys (drop (at + length (xs ++ ys)) before)))

-- what an unrefused write is
pub record Accepted (areas : Areas) (number : ℕ) (bytes store : List ℕ) : Type 0 where
  pub slot : (place number areas.slots).slot < slot_count
  pub room : (place number areas.slots).used + length bytes ≤ slot_size (length store)
  pub step : append_step areas number bytes store ≡ appended_at areas (place number areas.slots) number bytes store

pub accepted : (areas : Areas) (number : ℕ) (bytes store : List ℕ) → (append_step areas number bytes store).told ≡ given tt → Accepted areas number bytes store
unfolding append_step append_rules
accepted areas number bytes store e =
    let p = place number areas.slots in
    let met = passed (λ (o : Appending). o.told) (refused_append areas store) (λ n values. refl) (append_rules p (length bytes) (length store))
    (appended_at areas p number bytes store) tt e in
    record { slot = leb-false slot_count p.slot met.0.0; room = ltb-false (slot_size (length store)) (p.used + length bytes) met.0.1.0; step = met.1 }

-- the number is found where its bytes went
module _ (number : ℕ) (slots : List Area) (eight : length slots ≡ slot_count) (used : ℕ) (slot : (place number slots).slot < slot_count) where
  not_behind : (place number slots).slot ≤ held_at number slots
  unfolding place
  not_behind =
      by_test (λ (q : Place). q.slot < slot_count → q.slot ≤ held_at number slots) (is_held number slots) (λ e h. omega arith)
      (λ e h. omega (arith, ltb-false (held_at number slots) slot_count e)) slot

  found_there : place number (set slots (place number slots).slot (record { held = true; number = number; used = used })) ≡ record { slot = (place number slots).slot; used = used }
  unfolding place held_at passes
  found_there =
      let i = (place number slots).slot in
      let x : Area = record { held = true; number = number; used = used } in
      let here : held_at number (set slots i x) ≡ i = first_set (passes (Some number)) free_slot slots i x (omega arith) not_behind (eq-eqb number number refl) in
      let count : used_at i (set slots i x) ≡ used = ap (λ (a : Area). a.used) (get_or-set_same slots i x free_slot (omega arith)) in
      rw (here, lt-ltb i slot_count slot, count)

-- what the second makes of the slots and the store that the first left
as_one : (areas : Areas) (p : Place) (number : ℕ) (xs ys store : List ℕ) → p.slot * slot_size (length store) + p.used + length xs ≤ length store
    → appended_at (held_by areas p.slot number (p.used + length xs)) (record { slot = p.slot; used = p.used + length xs }) number ys
    (over (p.slot * slot_size (length store) + p.used) xs store)
    ≡ appended_at areas p number (xs ++ ys) store
unfolding appended_at held_by
as_one areas p number xs ys store inside =
    let i = p.slot in
    let at = i * slot_size (length store) + p.used in
    let kept = over at xs store in
    let holds : ℕ → Area = λ n. record { held = true; number = number; used = n } in
    let count : p.used + length xs + length ys ≡ p.used + length (xs ++ ys) =
    add_assoc p.used (length xs) (length ys) ∙ ap (λ (n : ℕ). p.used + n) (sym (length-append xs ys)) in
    let slots = set-set areas.slots i (holds (p.used + length xs)) (holds (p.used + length xs + length ys)) ∙ ap (λ (n : ℕ). set areas.slots i (holds n)) count in
    let behind : i * slot_size (length kept) + (p.used + length xs) ≡ at + length xs =
    ap (λ (n : ℕ). i * slot_size n + (p.used + length xs)) (length_over at xs store inside) ∙ sym (add_assoc (i * slot_size (length store)) p.used (length xs)) in
    ap₂ (λ (l : List Area) (after : List ℕ). record { told = given tt; next = record { slots = l }; leaves = after }) slots
    (ap (λ (n : ℕ). over n ys kept) behind ∙ over_join at xs ys store inside)

pub joined : (areas : Areas) (number : ℕ) (xs ys store : List ℕ) → length areas.slots ≡ slot_count
    → (append_step areas number xs store).told ≡ given tt
    → (append_step (append_step areas number xs store).next number ys (append_step areas number xs store).leaves).told ≡ given tt
    → append_step (append_step areas number xs store).next number ys (append_step areas number xs store).leaves ≡ append_step areas number (xs ++ ys) store
unfolding held_by appended_at
joined areas number xs ys store eight first second =
    let p = place number areas.slots in
    let a = accepted areas number xs store first in
    let at = p.slot * slot_size (length store) + p.used in
    let inside : at + length xs ≤ length store = omega (arith, slot_inside p.slot (length store) a.slot, a.room) in
    let slots = held_by areas p.slot number (p.used + length xs) in
    let kept = over at xs store in
    let now : append_step (append_step areas number xs store).next number ys (append_step areas number xs store).leaves ≡ append_step slots number ys kept =
    ap (λ (o : Appending). append_step o.next number ys o.leaves) a.step in
    let b = accepted slots number ys kept (ap (λ (o : Appending). o.told) (sym now) ∙ second) in
    let there = found_there number areas.slots eight (p.used + length xs) a.slot in
    let fits : p.used + length xs + length ys ≤ slot_size (length kept) = rw there at b.room in
    let room : p.used + length (xs ++ ys) ≤ slot_size (length store) =
    omega (arith, fits, length-append xs ys, length_over at xs store inside) in
    now ∙ b.step ∙ ap (λ (q : Place). appended_at slots q number ys kept) there ∙ as_one areas p number xs ys store inside
    ∙ sym (appended areas number (xs ++ ys) store p refl a.slot room)
