-- Which refusals an upload can meet from its start: its control writes are of the one kind that the device takes, and every one leaves the store as
-- long as it was, so 58 and 59 alone.
use Prim.Native.Nat.{ℕ, ◌+◌, ◌*◌, ◌/◌, ◌<◌, ◌≤◌}
use mathlib.Core.Path.{◌≡◌, refl, sym, ◌∙◌}
use mathlib.Core.List.{List}
use native.Mathlib.Omega.{arith}
use lib.Dec.{leb, ltb}
use lib.ListN.{length}
use borrow.Author.Tests.{leb-false, ltb-false, eq-eqb}
use Rattle.promise.specs.Told.{given, refused}
use Rattle.promise.specs.Rules.{or_refuse}
use Rattle.promise.proofs.Over.{length_over}
use Rattle.promise.proofs.Outcome.{by_test, either_way}
use Rattle.maskrom_transfer.specs.Moves.{block_size}
use Rattle.maskrom.specs.Whole.{fresh_whole}
use Rattle.theorems.specs.UploadBytes.{upload_bytes, cut}
use Rattle.theorems.proofs.CutIntoTransfers.{cut_many}
use Rattle.mock_areas.specs.declared.Areas.{Areas}
use Rattle.mock_areas.specs.Slots.{slot_count, slot_size, place}
use Rattle.mock_areas.specs.Append.{Appending, append_rules, refused_append, appended_at, append_step}
use Rattle.mock_areas.proofs.Room.{slot_inside}
use Rattle.mock_base.specs.Flash.{flash_sectors, size_told}
use Rattle.mock.specs.declared.device.MockState.{MockState}
use Rattle.mock.specs.Device.{Call, is_upload, control_rules, with_areas, write_control}
use Rattle.promise.specs.Run.{end_told, Ran, runs}
use Rattle.run_upload.specs.Load.{LoadState, load_state, load_turn, upload_budget}
use Rattle.run_upload.proofs.Checks.{unrefused}
use Rattle.theorems.proofs.UploadTransfers.{Loads, spent, finished, stopped, sent_on_lem, fresh_loads}
use Rattle.theorems.specs.Runs.{written, upload_run}
use Rattle.theorems.proofs.UploadSteps.{whole_many}
use Rattle.theorems.specs.Told.{UploadTold, accepted, no_slot, slot_full}
use Rattle.std.specs.declared.result.Result.TheVariants.{Ok}

module _ (areas : Areas) (number : ℕ) (bytes store : List ℕ) where
  append_told : UploadTold (append_step areas number bytes store).told
  unfolding append_step append_rules appended_at or_refuse
  append_told =
      let p = place number areas.slots in
      by_test (λ (o : Appending). UploadTold o.told) (leb slot_count p.slot) (λ e. no_slot)
      (λ e. by_test (λ (o : Appending). UploadTold o.told) (ltb (slot_size (length store)) (p.used + length bytes)) (λ f. slot_full) (λ f. accepted))

  pub append_long : length (append_step areas number bytes store).leaves ≡ length store
  unfolding append_step append_rules appended_at
  append_long =
      let p = place number areas.slots in
      either_way (λ (o : Appending). length o.leaves ≡ length store) (refused_append areas store) (append_rules p (length bytes) (length store))
      (appended_at areas p number bytes store) (λ n values. refl)
      (λ met.
      let slot = leb-false slot_count p.slot met.0 in
      let room = ltb-false (slot_size (length store)) (p.used + length bytes) met.1.0 in
      length_over (p.slot * slot_size (length store) + p.used) bytes store (omega (arith, slot_inside p.slot (length store) slot)))

module _ (device : MockState) (area : ℕ) (bytes store : List ℕ) where
  -- not 65 where the store is of its length, and never 51
  control_told : length store ≡ device.store_length → UploadTold (written device area bytes store).told
  unfolding write_control control_rules is_upload or_refuse
  control_told e = rw (eq-eqb (length store) device.store_length e) (append_told device.areas area bytes store)

  control_long : length store ≡ device.store_length → length (written device area bytes store).leaves ≡ (written device area bytes store).next.store_length
  unfolding write_control
  control_long e =
      let a = append_step device.areas area bytes store in
      either_way (λ (c : Call). length c.leaves ≡ c.next.store_length) (λ number values. record { told = refused number values; next = device; leaves = store })
      (control_rules device 0x40 0xc 0 (length store)) (record { told = a.told; next = with_areas device a.next; leaves = a.leaves })
      (λ n values. e) (λ met. append_long device.areas area bytes store ∙ e)

loads_told : (area : ℕ) (pieces : List (List ℕ)) (k : ℕ) (device : MockState) (store : List ℕ) (r : Ran Unit LoadState) → Loads area pieces k device store r
    → length store ≡ device.store_length → length pieces < k → UploadTold (end_told r.end)
unfolding end_told
loads_told area pieces k device store r (spent all d l s) e h = absurd (omega arith)
loads_told area pieces k device store r (finished j d l u) e h = accepted
loads_told area pieces k device store r (stopped j bytes rest d l u number values t) e h = rw t at (control_told d area bytes l e)
loads_told area pieces k device store r (sent_on_lem j bytes rest d l next t on) e h =
    loads_told area rest j _ _ next on (control_long d area bytes l e) (omega arith)

module _ (area : ℕ) (image : List ℕ) (flash : ℕ) (device : MockState) (store : List ℕ) (sectors : ℕ)
    (legal : flash_sectors flash ≡ given sectors) (long : length store ≡ device.store_length) where
  -- where the checks before its first step are met, an upload is told one of the three
  pub upload_told : (budget : ℕ) → length (upload_bytes image) / block_size + 2 ≤ budget
      → UploadTold (end_told (upload_run area image flash device store budget).end)
  unfolding size_told
  upload_told budget h =
      let s = load_state (fresh_whole area (length image)) device store in
      rw (unrefused image flash budget s (Ok sectors) sectors (sym legal) refl long refl)
      (loads_told area (cut (upload_bytes image)) budget device store (runs (load_turn image) budget s) (fresh_loads area image budget device store) long
      (omega (arith, cut_many (upload_bytes image))))

  pub whole_upload_told : UploadTold (end_told (upload_run area image flash device store (upload_budget (length image))).end)
  whole_upload_told = upload_told (upload_budget (length image)) (whole_many image)
