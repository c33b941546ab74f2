-- Control calls: they keep the session; a refused one changes nothing; areas by their numbers.
use Prim.Native.Nat.{ℕ, ◌*◌, ◌≤◌}
use mathlib.Core.Path.{◌≡◌, refl, ap, sym, ◌∙◌}
use mathlib.Core.Bool.{true}
use mathlib.Core.List.{List}
use borrow.Author.Tests.{eq-eqb}
use lib.ListN.{length}
use Rattle.promise.specs.Told.{refused}
use Rattle.promise.specs.Rules.{or_refuse}
use Rattle.promise.specs.Over.{over}
use Rattle.promise.proofs.Outcome.{either_way}
use Rattle.mock_base.specs.Told.{result_told, error_values}
use Rattle.mock_base.specs.declared.error.MockTransportError.TheVariants.{NoSlot}
use Rattle.mock_base.proofs.Unique.{result_from, error_from, result_from_lem}
use Rattle.mock_areas.specs.Slots.{slot_count, slot_size, NotAmong, AllHeld, LowestFree}
use Rattle.mock_areas.specs.Append.{append_step, area_told, AppendMeets, TakesSlot}
use Rattle.mock_areas.specs.Contents.{bytes_at, contents, Sound, gains}
use Rattle.mock_areas.proofs.Holdings.{append_grows, append_refused}
use Rattle.mock_areas.specs.declared.AreaStep.{AreaStep}
use Rattle.mock_areas.proofs.NewNumber.{no_slot_told, no_slot_means, new_number_told, takes_lowest_free}
use Rattle.mock.specs.Device.{Call, MockMeets, session_of, is_upload, control_rules, write_control, with_areas, maskrom_area}
use Rattle.mock.specs.declared.device.MockState.{MockState}
use Rattle.mock.specs.declared.device.MockStep.{MockStep}
use Rattle.std.specs.Prelude.{Result}
use Rattle.mock_base.specs.declared.error.MockTransportError.{MockTransportError}
use Rattle.std.specs.declared.result.Result.TheVariants.{Ok, Err}

-- what a control call makes of the record and the store: its own area gains, all else stays
pub record Controlled (s : MockState) (index : ℕ) (bytes store : List ℕ) (c : Call) : Type 0 where
  pub session : session_of c.next ≡ session_of s
  pub long : length c.leaves ≡ length store
  pub sound : Sound c.next.areas c.leaves
  pub own : contents index c.next.areas c.leaves ≡ gains c.told bytes (contents index s.areas store)
  pub others : (b : ℕ) → (b ≡ index → ⊥) → contents b c.next.areas c.leaves ≡ contents b s.areas store

pub control_areas : (s : MockState) (type request value index : ℕ) (bytes store : List ℕ) → Sound s.areas store
    → Controlled s index bytes store (write_control s type request value index bytes store)
unfolding write_control gains
control_areas s type request value index bytes store sound =
    let a = append_step s.areas index bytes store in
    let g = append_grows index bytes s.areas store sound in
    either_way (Controlled s index bytes store) (λ number values. record { told = refused number values; next = s; leaves = store })
    (control_rules s type request value (length store)) (record { told = a.told; next = with_areas s a.next; leaves = a.leaves })
    (λ n values. record { session = refl; long = refl; sound = sound; own = refl; others = λ b other. refl })
    (λ met. record { session = refl; long = g.long; sound = g.sound; own = g.own; others = g.others })

-- a refused control call changes nothing
pub control_refused : (s : MockState) (type request value index : ℕ) (bytes store : List ℕ) (n : ℕ) (values : List ℕ)
    → (write_control s type request value index bytes store).told ≡ refused n values
    → ((write_control s type request value index bytes store).next ≡ s) × ((write_control s type request value index bytes store).leaves ≡ store)
unfolding write_control
control_refused s type request value index bytes store n values =
    let a = append_step s.areas index bytes store in
    either_way (λ (c : Call). c.told ≡ refused n values → (c.next ≡ s) × (c.leaves ≡ store))
    (λ number vs. record { told = refused number vs; next = s; leaves = store })
    (control_rules s type request value (length store)) (record { told = a.told; next = with_areas s a.next; leaves = a.leaves })
    (λ m vs e. (refl, refl))
    (λ met e. let r = append_refused index bytes s.areas store n values e in (ap (with_areas s) r.0, r.1))

-- where an area's bytes stand is where they are found
pub maskrom_bytes : (s : MockState) (number : ℕ) (store : List ℕ) → length store ≡ s.store_length
    → bytes_at (maskrom_area s number) store ≡ contents number s.areas store
unfolding contents
maskrom_bytes s number store e = rw e refl

-- a control call that 65 and 51 let through gives 58 exactly where no slot is held by its index and all eight are held
module _ (s : MockState) (type request value index : ℕ) (bytes store after : List ℕ) (r : MockStep) (eight : length s.areas.slots ≡ slot_count)
    (stored : length store ≡ s.store_length) (upload : is_upload type request value ≡ true)
    (meets : MockMeets r after (write_control s type request value index bytes store)) where
  appends : write_control s type request value index bytes store
      ≡ record {
        told = (append_step s.areas index bytes store).told;
        next = with_areas s (append_step s.areas index bytes store).next;
        leaves = (append_step s.areas index bytes store).leaves;
      }
  unfolding write_control control_rules or_refuse
  appends = rw (eq-eqb (length store) s.store_length stored, upload) refl

  told_as : (write_control s type request value index bytes store).told ≡ (append_step s.areas index bytes store).told
  told_as = ap (λ (c : Call). c.told) appends

  pub control_58 : (NotAmong index s.areas × AllHeld s.areas → r.answer.result ≡ Err NoSlot)
      × (r.answer.result ≡ Err NoSlot → NotAmong index s.areas × AllHeld s.areas)
  unfolding result_from error_from result_told error_values
  control_58 = (
    (λ both. sym (result_from_lem r.answer.result r.answer.signature)
        ∙ ap result_from (meets.tells.tells ∙ told_as ∙ no_slot_told s.areas index bytes store eight both.0 both.1)),
    (λ e. no_slot_means s.areas index bytes store eight
        (sym told_as ∙ sym meets.tells.tells ∙ ap (λ (x : Result Unit MockTransportError). result_told x r.answer.signature) e)),
  )

  -- and a new index is not refused, where a slot is free and the bytes fit its size, as no data always does: it takes the lowest free slot
  pub control_new_number : (k : ℕ) → NotAmong index s.areas → LowestFree k s.areas → length bytes ≤ slot_size (length store)
      → (r.answer.result ≡ Ok tt) × TakesSlot k index (length bytes) s.areas r.state.areas × (after ≡ over (k * slot_size (length store)) bytes store)
  unfolding result_from area_told
  control_new_number k new here fits =
      let done = new_number_told s.areas index bytes store eight k new here fits in
      let step : AreaStep = record { answer = Ok tt; areas = r.state.areas } in
      let like : AppendMeets step after (append_step s.areas index bytes store) =
      record {
        tells = sym done;
        next = ap (λ (x : MockState). x.areas) meets.next ∙ ap (λ (c : Call). c.next.areas) appends;
        leaves = meets.leaves ∙ ap (λ (c : Call). c.leaves) appends;
      } in
      let takes = takes_lowest_free s.areas index bytes store after step eight like k new here refl in (
        sym (result_from_lem r.answer.result r.answer.signature) ∙ ap result_from (meets.tells.tells ∙ told_as ∙ done),
        takes.0,
        takes.1,
      )
