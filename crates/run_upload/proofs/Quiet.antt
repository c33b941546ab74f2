-- A control call is refused with 65, 51, 58 or 59, which carry no signature.
use Prim.Native.Nat.{ℕ, ◌+◌}
use mathlib.Core.Path.{◌≡◌, refl}
use mathlib.Core.Bool.{Bool, true, false, not}
use mathlib.Core.List.{List, [], ◌∷◌}
use lib.ListN.{length}
use lib.Dec.{leb, ltb, eqb}
use Rattle.promise.specs.Told.{Told, refused}
use Rattle.promise.specs.Rules.{pick, or_refuse}
use Rattle.protocol_bytes.specs.Signature.{no_signature}
use Rattle.mock_areas.specs.declared.Areas.{Areas}
use Rattle.mock_areas.specs.Append.{Appending, append_step, append_rules, appended_at, refused_append}
use Rattle.mock_areas.specs.Slots.{place, slot_count, slot_size}
use Rattle.mock_base.specs.Told.{inner_signature, signature_beside}
use Rattle.mock.specs.declared.device.MockState.{MockState}
use Rattle.mock.specs.Device.{Call, is_upload, control_rules, write_control, with_areas}

abbrev Quiet : Told Unit → Type 0
Quiet told = signature_beside told ≡ no_signature

either : {A : Type 0} (told : A → Told Unit) (b : Bool) (x y : A) → Quiet (told x) → Quiet (told y) → Quiet (told (pick b x y))
either told true x y h k = h
either told false x y h k = k

append_quiet : (areas : Areas) (number : ℕ) (bytes store : List ℕ) → Quiet (append_step areas number bytes store).told
unfolding append_step append_rules appended_at or_refuse signature_beside inner_signature
append_quiet areas number bytes store =
    let p = place number areas.slots in
    let done = appended_at areas p number bytes store in
    let full = ltb (slot_size (length store)) (p.used + length bytes) in
    let told : Appending → Told Unit = λ a. a.told in
    either told (leb slot_count p.slot) (refused_append areas store 58 []) (pick full (refused_append areas store 59 []) done) refl
    (either told full (refused_append areas store 59 []) done refl refl)

pub control_quiet : (s : MockState) (type request value index : ℕ) (bytes store : List ℕ) → Quiet (write_control s type request value index bytes store).told
unfolding write_control control_rules or_refuse signature_beside inner_signature
control_quiet s type request value index bytes store =
    let refuses : ℕ → List ℕ → Call = λ number values. record { told = refused number values; next = s; leaves = store } in
    let step = append_step s.areas index bytes store in
    let done : Call = record { told = step.told; next = with_areas s step.next; leaves = step.leaves } in
    let told : Call → Told Unit = λ c. c.told in
    let other = not (is_upload type request value) in
    either told (not (eqb (length store) s.store_length)) (refuses 65 []) (pick other (refuses 51 (type ∷ request ∷ value ∷ [])) done) refl
    (either told other (refuses 51 (type ∷ request ∷ value ∷ [])) done refl (append_quiet s.areas index bytes store))
