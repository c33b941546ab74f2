-- Programs that the contracts rule out, each at a named input: no proof can exist for them.
use Prim.Native.Nat.{ℕ, suc}
use mathlib.Core.Path.{◌≡◌, ap, sym, ◌∙◌}
use mathlib.Core.Bool.{Bool, true, false}
use mathlib.Core.List.{List, [], ◌∷◌}
use native.Mathlib.Omega.{arith}
use lib.ListN.{get_or, replicate}
use Rattle.promise.specs.Told.{number}
use Rattle.promise.specs.Rules.{or_refuse}
use Rattle.promise.specs.Over.{over}
use Rattle.mock_areas.specs.Slots.{free_slot, fresh_areas, passes, first_at, held_at, place, area_found}
use Rattle.mock_areas.specs.Append.{held_by, append_rules, appended_at, append_step, area_told, AppendMeets}
use Rattle.mock_areas.specs.declared.Area.{Area}
use Rattle.mock_areas.specs.declared.Areas.{Areas}
use Rattle.std.specs.Prelude.{Option}
use Rattle.std.specs.declared.option.Option.TheVariants.{Some, None}
use Rattle.mock_areas.specs.declared.Stretch.{Stretch}
use Rattle.mock_areas.specs.declared.AreaStep.{AreaStep}
use Rattle.std.specs.declared.result.Result.TheVariants.{Ok, Err}
use Rattle.mock_areas.specs.declared.AreaError.TheVariants as area_error

-- the first slot, and whether it is held, as a number
abbrev first_slot : Areas → Area
first_slot areas = get_or areas.slots 0 free_slot

abbrev held_number : Bool → ℕ
held_number true = 1
held_number false = 0

-- `RuleNumber::number` of an append's answer: one number for both refusals
pub one_number_for_both : (n : ℕ) → n ≡ number (area_told (Err area_error.NoSlot)) → n ≡ number (area_told (Err area_error.SlotFull)) → ⊥
unfolding number area_told
one_number_for_both n first second = omega arith

-- written bytes told as a refusal
pub written_told_as_refused : (n : ℕ) → suc n ≡ number (area_told (Ok tt)) → ⊥
unfolding number area_told
written_told_as_refused n e = omega arith

-- `Areas::new`: a slot held at first
pub held_at_first : (areas : Areas) → (first_slot areas).held ≡ true → areas ≡ fresh_areas → ⊥
unfolding fresh_areas
held_at_first areas held e =
    let z : ◌≡◌ {A = ℕ} 1 0 = sym (ap held_number held) ∙ ap (λ (a : Areas). held_number (first_slot a).held) e in omega arith

-- a slot used at first
pub used_at_first : (areas : Areas) (n : ℕ) → (first_slot areas).used ≡ suc n → areas ≡ fresh_areas → ⊥
unfolding fresh_areas
used_at_first areas n used e = let z : suc n ≡ 0 = sym used ∙ ap (λ (a : Areas). (first_slot a).used) e in omega arith

-- the second slot held by area 5, with three bytes
abbrev pub one_held : Areas
one_held = held_by fresh_areas 1 5 3

abbrev start_of : Option Stretch → ℕ
start_of None = 0
start_of (Some found) = found.start

abbrev length_of : Option Stretch → ℕ
length_of None = 0
length_of (Some found) = found.length

-- `Areas::find`: slots of another size; of a store of 72 bytes the second slot starts at 9, and not at 8
pub another_size_for_the_start : (n : ℕ) → Some (record { start = 8; length = n }) ≡ area_found one_held 5 72 → ⊥
unfolding area_found held_by fresh_areas held_at first_at passes
another_size_for_the_start n e = let z : ◌≡◌ {A = ℕ} 8 9 = ap start_of e in omega arith

-- the slot's place given for the length
pub length_is_the_place : (start : ℕ) → Some (record { start = start; length = 1 }) ≡ area_found one_held 5 72 → ⊥
unfolding area_found held_by fresh_areas held_at first_at passes
length_is_the_place start e = let z : ◌≡◌ {A = ℕ} 1 3 = ap length_of e in omega arith

-- a store of eight bytes, and one byte
abbrev store : List ℕ
store = replicate 8 0

abbrev byte : List ℕ
byte = 7 ∷ []

-- `Areas::append`: always refusing
pub append_always_refusing : (r : AreaStep) (after : List ℕ) (n : ℕ) → number (area_told r.answer) ≡ suc n
    → AppendMeets r after (append_step fresh_areas 5 byte store) → ⊥
unfolding number append_step or_refuse append_rules appended_at place fresh_areas held_at first_at passes
append_always_refusing r after n e meets = let z : suc n ≡ 0 = sym e ∙ ap number meets.tells in omega arith

-- nothing written
pub append_does_nothing : (r : AreaStep) → AppendMeets r store (append_step fresh_areas 5 byte store) → ⊥
unfolding over append_step or_refuse append_rules appended_at place fresh_areas held_at first_at passes
append_does_nothing r meets = let z : ◌≡◌ {A = ℕ} 0 7 = ap (λ (l : List ℕ). get_or l 0 0) meets.leaves in omega arith

-- the neighbour's slot written
pub neighbours_slot : (r : AreaStep) → AppendMeets r (0 ∷ 7 ∷ replicate 6 0) (append_step fresh_areas 5 byte store) → ⊥
unfolding over append_step or_refuse append_rules appended_at place fresh_areas held_at first_at passes
neighbours_slot r meets = let z : ◌≡◌ {A = ℕ} 0 7 = ap (λ (l : List ℕ). get_or l 0 0) meets.leaves in omega arith

-- a refused write that keeps its slot: no byte goes into slots of no bytes
pub refusal_keeps_slot : (r : AreaStep) (after : List ℕ) → (first_slot r.areas).held ≡ true → AppendMeets r after (append_step fresh_areas 5 byte []) → ⊥
unfolding append_step or_refuse append_rules place fresh_areas held_at first_at passes
refusal_keeps_slot r after held meets =
    let z : ◌≡◌ {A = ℕ} 1 0 = sym (ap held_number held) ∙ ap (λ (a : Areas). held_number (first_slot a).held) meets.next in omega arith
