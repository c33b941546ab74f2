-- What an upload keeps, whatever it ends in: control writes change the areas and the store's bytes alone.
use Prim.Native.Nat.{ℕ}
use mathlib.Core.Path.{◌≡◌, refl, ap, ◌∙◌}
use mathlib.Core.List.{List}
use lib.ListN.{length}
use Rattle.promise.specs.Told.{refused}
use Rattle.promise.proofs.Outcome.{either_way}
use Rattle.maskrom.specs.Whole.{fresh_whole}
use Rattle.theorems.specs.UploadBytes.{upload_bytes, cut}
use Rattle.mock_areas.specs.Append.{append_step}
use Rattle.mock.specs.declared.device.MockState.{MockState}
use Rattle.mock.specs.Device.{Call, control_rules, with_areas, write_control}
use Rattle.mock.proofs.Controls.{control_areas}
use Rattle.promise.specs.Run.{Ran, runs}
use Rattle.run_upload.specs.Load.{LoadState, load_state, load_turn, load_rules, unstarted, load_run}
use Rattle.theorems.proofs.UploadTransfers.{Loads, spent, finished, stopped, sent_on_lem, fresh_loads}
use Rattle.theorems.specs.Runs.{written, upload_run}
use Rattle.theorems.proofs.UploadRefusals.{append_long}
use Rattle.theorems.specs.Standing.{Keeps}

keeps_all : (device : MockState) (store : List ℕ) → Keeps device store device store
keeps_all device store = record { same = refl; long = refl; sound = λ s. s }

keeps_then : (a b c : MockState) (k l m : List ℕ) → Keeps a k b l → Keeps b l c m → Keeps a k c m
keeps_then a b c k l m p q =
    record { same = q.same ∙ ap (λ (d : MockState). with_areas d c.areas) p.same; long = q.long ∙ p.long; sound = λ s. q.sound (p.sound s) }

control_keeps : (device : MockState) (area : ℕ) (bytes store : List ℕ)
    → Keeps device store (written device area bytes store).next (written device area bytes store).leaves
unfolding write_control
control_keeps device area bytes store =
    let a = append_step device.areas area bytes store in
    let same : ((written device area bytes store).next ≡ with_areas device (written device area bytes store).next.areas)
    × (length (written device area bytes store).leaves ≡ length store) =
    either_way (λ (c : Call). (c.next ≡ with_areas device c.next.areas) × (length c.leaves ≡ length store))
    (λ number values. record { told = refused number values; next = device; leaves = store })
    (control_rules device 0x40 0xc 0 (length store)) (record { told = a.told; next = with_areas device a.next; leaves = a.leaves })
    (λ n values. (refl, refl)) (λ met. (refl, append_long device.areas area bytes store)) in
    record { same = same.0; long = same.1; sound = λ s. (control_areas device 0x40 0xc 0 area bytes store s).sound }

loads_keep : (area : ℕ) (pieces : List (List ℕ)) (k : ℕ) (device : MockState) (store : List ℕ) (r : Ran Unit LoadState) → Loads area pieces k device store r
    → Keeps device store r.state.device r.state.store
loads_keep area pieces k device store r (spent all d l u) = keeps_all d l
loads_keep area pieces k device store r (finished j d l u) = keeps_all d l
loads_keep area pieces k device store r (stopped j bytes rest d l u number values t) = control_keeps d area bytes l
loads_keep area pieces k device store r (sent_on_lem j bytes rest d l next t on) =
    let c = written d area bytes l in
    keeps_then d c.next next.state.device l c.leaves next.state.store (control_keeps d area bytes l) (loads_keep area rest j c.next c.leaves next on)

-- the transaction, the last reset, the configuration and the store's length are as they were, and the areas stay sound
pub upload_keeps : (area : ℕ) (image : List ℕ) (flash : ℕ) (device : MockState) (store : List ℕ) (budget : ℕ)
    → Keeps device store (upload_run area image flash device store budget).state.device (upload_run area image flash device store budget).state.store
unfolding load_run
upload_keeps area image flash device store budget =
    let s = load_state (fresh_whole area (length image)) device store in
    either_way (λ (r : Ran Unit LoadState). Keeps device store r.state.device r.state.store) (unstarted s) (load_rules s flash (length image))
    (runs (load_turn image) budget s) (λ n values. keeps_all device store)
    (λ met. loads_keep area (cut (upload_bytes image)) budget device store (runs (load_turn image) budget s) (fresh_loads area image budget device store))
