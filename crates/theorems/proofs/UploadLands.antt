-- What an unrefused upload leaves: its transfers are one write after another to its area, and so all of them come to one write of the upload's bytes.
use Prim.Native.Nat.{ℕ, ◌+◌, ◌*◌}
use mathlib.Core.Path.{◌≡◌, refl, ap, sym, subst, ◌∙◌}
use mathlib.Core.List.{List, [], ◌++◌, flatten, append_assoc, append-nil}
use mathlib.Core.Option.{Option, some}
use native.Mathlib.Omega.{arith}
use lib.Dec.{eqb}
use lib.ListN.{length}
use borrow.Author.Tests.{eq-eqb, eqb-true, not-false}
use Rattle.promise.specs.Told.{Told, given}
use Rattle.promise.specs.Over.{over}
use Rattle.promise.specs.Rules.{or_refuse}
use Rattle.promise.proofs.Outcome.{passed}
use Rattle.maskrom.specs.Whole.{fresh_whole}
use Rattle.theorems.specs.UploadBytes.{upload_bytes, cut}
use Rattle.theorems.proofs.CutIntoTransfers.{cut_many, cut_joins}
use Rattle.mock_areas.specs.Slots.{slot_size, place}
use Rattle.mock_areas.specs.Append.{Appending, append_step, appended_at}
use Rattle.mock_areas.specs.Contents.{bytes_at, Sound, so_far, gains}
use Rattle.mock_base.specs.Flash.{flash_rules}
use Rattle.mock.specs.declared.device.MockState.{MockState}
use Rattle.mock.specs.Device.{Call, is_upload, control_rules, with_areas, write_control, maskrom_area}
use Rattle.mock.proofs.Controls.{Controlled, control_areas, maskrom_bytes}
use Rattle.promise.specs.Run.{tells, end_told, Ran, runs}
use Rattle.run_upload.specs.Load.{LoadState, load_state, load_turn, load_rules, unstarted, load_run}
use Rattle.theorems.proofs.UploadTransfers.{Loads, spent, finished, stopped, sent_on_lem, fresh_loads}
use Rattle.theorems.specs.Runs.{written, upload_run, accepts}
use Rattle.theorems.proofs.UploadSteps.{given_refused, given_spent}
use Rattle.theorems.proofs.UploadRefusals.{append_long}
use Rattle.theorems.proofs.TwoWritesAreOne.{accepted, joined}

-- a write to an area, as the device's call
abbrev as_call : MockState → Appending → Call
as_call device a = record { told = a.told; next = with_areas device a.next; leaves = a.leaves }

-- where the store is of its length, a transfer is a write to its area
as_append : (device : MockState) (area : ℕ) (bytes store : List ℕ) → length store ≡ device.store_length
    → written device area bytes store ≡ as_call device (append_step device.areas area bytes store)
unfolding write_control control_rules is_upload or_refuse
as_append device area bytes store long = rw (eq-eqb (length store) device.store_length long)

-- two transfers that are accepted are one
module _ (device : MockState) (area : ℕ) (store : List ℕ) (sound : Sound device.areas store) (long : length store ≡ device.store_length) where
  two_transfers : (xs ys : List ℕ) (next : MockState) (leaves : List ℕ) → written device area xs store ≡ accepts next leaves
      → (written next area ys leaves).told ≡ given tt → written next area ys leaves ≡ written device area (xs ++ ys) store
  two_transfers xs ys next leaves e t =
      let a = append_step device.areas area xs store in
      let b = append_step a.next area ys a.leaves in
      let first : accepts next leaves ≡ as_call device a = sym e ∙ as_append device area xs store long in
      let second : written next area ys leaves ≡ as_call device b =
      ap (λ (c : Call). written c.next area ys c.leaves) first
      ∙ as_append (with_areas device a.next) area ys a.leaves (append_long device.areas area xs store ∙ long) in
      second
      ∙ ap (as_call device)
      (joined device.areas area xs ys store sound.eight (ap (λ (c : Call). c.told) (sym first)) (ap (λ (c : Call). c.told) (sym second) ∙ t))
      ∙ sym (as_append device area (xs ++ ys) store long)

  -- .. and so are as many as there are
  transfers_join : (pieces : List (List ℕ)) (k : ℕ) (next : MockState) (leaves : List ℕ) (r : Ran Unit LoadState) → Loads area pieces k next leaves r
      → r.end ≡ tells (given tt) → (bytes : List ℕ) → written device area bytes store ≡ accepts next leaves
      → written device area (bytes ++ flatten pieces) store ≡ accepts r.state.device r.state.store
  unfolding flatten
  transfers_join pieces k next leaves r (spent all d l s) e bytes w = given_spent e
  transfers_join pieces k next leaves r (finished j d l u) e bytes w = rw (append-nil bytes) w
  transfers_join pieces k next leaves r (stopped j piece rest d l u number values t) e bytes w = given_refused number values e
  transfers_join pieces k next leaves r (sent_on_lem j piece rest d l run t on) e bytes w =
      let c = written d area piece l in
      let both : written device area (bytes ++ piece) store ≡ accepts c.next c.leaves =
      sym (two_transfers bytes piece d l w t) ∙ ap (λ (x : Told Unit). record { told = x; next = c.next; leaves = c.leaves }) t in
      rw (← append_assoc bytes piece (flatten rest)) (transfers_join rest j c.next c.leaves run on e (bytes ++ piece) both)

transfers_made : (area : ℕ) (pieces : List (List ℕ)) (k : ℕ) (device : MockState) (store : List ℕ) (r : Ran Unit LoadState) → Loads area pieces k device store r
    → (pieces ≡ [] → ⊥) → r.end ≡ tells (given tt) → Sound device.areas store → length store ≡ device.store_length
    → written device area (flatten pieces) store ≡ accepts r.state.device r.state.store
unfolding flatten
transfers_made area pieces k device store r (spent all d l s) any e sound long = given_spent e
transfers_made area pieces k device store r (finished j d l u) any e sound long = absurd (any refl)
transfers_made area pieces k device store r (stopped j piece rest d l u number values t) any e sound long = given_refused number values e
transfers_made area pieces k device store r (sent_on_lem j piece rest d l run t on) any e sound long =
    let c = written d area piece l in
    transfers_join d area l sound long rest j c.next c.leaves run on e piece (ap (λ (x : Told Unit). record { told = x; next = c.next; leaves = c.leaves }) t)

module _ (area : ℕ) (image : List ℕ) (flash : ℕ) (device : MockState) (store : List ℕ) (budget : ℕ) where
  abbrev left : LoadState
  left = (upload_run area image flash device store budget).state

  module _ (sound : Sound device.areas store) (e : (upload_run area image flash device store budget).end ≡ tells (given tt)) where
    -- it met the checks before its first step
    started : (length store ≡ device.store_length)
        × (upload_run area image flash device store budget ≡ runs (load_turn image) budget (load_state (fresh_whole area (length image)) device store))
    unfolding load_run load_rules flash_rules end_told
    started =
        let s = load_state (fresh_whole area (length image)) device store in
        let p = passed (λ (r : Ran Unit LoadState). end_told r.end) (unstarted s) (λ n values. refl) (load_rules s flash (length image)) (runs (load_turn image) budget s) tt
        (ap end_told e) in
        (eqb-true (length store) device.store_length (not-false (eqb (length store) device.store_length) p.0.1.1.0), p.1)

    -- ONE WRITE. An unrefused upload leaves the device and the store as one accepted transfer of all its bytes would
    pub one_write : written device area (upload_bytes image) store ≡ accepts left.device left.store
    one_write =
        let bytes = upload_bytes image in
        let run = runs (load_turn image) budget (load_state (fresh_whole area (length image)) device store) in
        let ends : run.end ≡ tells (given tt) = ap (λ (r : Ran Unit LoadState). r.end) (sym started.1) ∙ e in
        ap (λ (l : List ℕ). written device area l store) (sym (cut_joins bytes))
        ∙ transfers_made area (cut bytes) budget device store run (fresh_loads area image budget device store)
        (λ none. omega (arith, cut_many bytes, ap length none)) ends sound started.0
        ∙ ap (λ (r : Ran Unit LoadState). accepts r.state.device r.state.store) (sym started.1)

    -- its own area gains the upload's bytes, and every other stays
    pub upload_lands : Controlled device area (upload_bytes image) store (accepts left.device left.store)
    upload_lands =
        subst (Controlled device area (upload_bytes image) store) one_write (control_areas device 0x40 0xc 0 area (upload_bytes image) store sound)

    as_written : accepts left.device left.store ≡ as_call device (append_step device.areas area (upload_bytes image) store)
    as_written = sym one_write ∙ as_append device area (upload_bytes image) store started.0

    still_long : length left.store ≡ left.device.store_length
    still_long = upload_lands.long ∙ started.0 ∙ sym (ap (λ (c : Call). c.next.store_length) as_written)

    -- the same, as `maskrom_area` finds them
    pub area_gains : bytes_at (maskrom_area left.device area) left.store ≡ some (so_far (bytes_at (maskrom_area device area) store) ++ upload_bytes image)
    unfolding gains
    area_gains =
        maskrom_bytes left.device area left.store still_long ∙ upload_lands.own
        ∙ ap (λ (before : Option (List ℕ)). some (so_far before ++ upload_bytes image)) (sym (maskrom_bytes device area store started.0))

    pub areas_stay : (other : ℕ) → (other ≡ area → ⊥) → bytes_at (maskrom_area left.device other) left.store ≡ bytes_at (maskrom_area device other) store
    areas_stay other apart =
        maskrom_bytes left.device other left.store still_long ∙ upload_lands.others other apart ∙ sym (maskrom_bytes device other store started.0)

    -- and every byte of the store but those is as it was
    pub store_over : left.store
        ≡ over ((place area device.areas.slots).slot * slot_size (length store) + (place area device.areas.slots).used) (upload_bytes image) store
    unfolding appended_at
    store_over =
        let told = ap (λ (c : Call). c.told) (sym as_written) in
        ap (λ (c : Call). c.leaves) as_written ∙ ap (λ (a : Appending). a.leaves) (accepted device.areas area (upload_bytes image) store told).step
