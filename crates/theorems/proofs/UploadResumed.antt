-- "28 may be resumed", for whoever calls `run_upload`: a run that ended in 28, and a run from what it handed back and left, are together the one run
-- whose budget is the sum of theirs.
-- What the before the first step look at is kept by every turn, so that they pass again.
use Prim.Native.Nat.{ℕ, zero, suc, ◌+◌}
use mathlib.Core.Path.{◌≡◌, refl, ap, ap₂, sym, subst, ◌∙◌}
use mathlib.Core.List.{List}
use lib.ListN.{length}
use Rattle.promise.specs.Told.{Told, given, refused, and_then}
use Rattle.promise.specs.Does.{Does, does, said, sent, after as becomes}
use Rattle.promise.specs.Run.{Turned, ends, goes, out_of_steps, Ran, counted, follow, runs}
use Rattle.promise.proofs.Outcome.{Met, either_way}
use Rattle.maskrom_transfer.specs.declared.Moved.{Moved}
use Rattle.maskrom_transfer.specs.Moves.{block_size}
use Rattle.crc.specs.Check.{crc_over}
use Rattle.maskrom_transfer.specs.Sending.{send_step}
use Rattle.maskrom.specs.declared.WholeUpload.{WholeUpload}
use Rattle.maskrom.specs.Answers.{Asks, writes, finish}
use Rattle.maskrom.specs.PartWise.{asks}
use Rattle.maskrom.specs.Whole.{fresh_whole, chunk, sent_on, sends_on, whole_step}
use Rattle.mock_base.specs.Flash.{flash_rules}
use Rattle.mock_areas.specs.Append.{append_step}
use Rattle.mock.specs.declared.device.MockState.{MockState}
use Rattle.mock.specs.Device.{Call, with_areas, control_rules, write_control}
use Rattle.run_upload.specs.declared.LoadRun.{LoadRun}
use Rattle.run_upload.specs.Load.{LoadState, load_state, carries, load_turn, load_rules, load_run, upload_budget}
use Rattle.run_upload.specs.Load as loading
use Rattle.run_upload.specs.Answers as loaded
use Rattle.run_upload.proofs.Unique as load-unique
use Rattle.theorems.specs.Resumed.{joined_load}
use Rattle.theorems.proofs.UploadSteps.{whole_upload_ends}
use Rattle.theorems.proofs.UploadRefusals.{append_long}
use Rattle.theorems.proofs.CheckedRuns.{spent_met, checked_resumed, checked_whole}
use Rattle.std.specs.Prelude.{Result}
use Rattle.run_upload.specs.declared.LoadError.{LoadError}
use Rattle.run_upload.specs.declared.LoadError.TheVariants.{OutOfSteps}
use Rattle.std.specs.declared.result.Result.TheVariants.{Err}

-- what the look at is as it was
record LoadKept (s t : LoadState) : Type 0 where
  long : length t.store ≡ length s.store
  stored : t.device.store_length ≡ s.device.store_length
  image : t.upload.length ≡ s.upload.length

abbrev LoadTurns : LoadState → Turned Unit LoadState → Type 0
LoadTurns s (ends told t) = LoadKept s t
LoadTurns s (goes t) = LoadKept s t

-- a step keeps the image's length
sent_image : (u : WholeUpload) (w : List ℕ) (t : Told (Does Moved Unit))
    → (becomes u
    (and_then t
    (λ (d : Does Moved Unit). given (does (asks u.steps u.area d.says.size) d.sends (sent_on u (length w) d.says.crc d.says.steps))))
    ).length ≡ u.length
unfolding and_then becomes
sent_image u w (given d) = refl
sent_image u w (refused number values) = refl

step_image : (u : WholeUpload) (image : List ℕ) → (becomes u (whole_step u image block_size)).length ≡ u.length
unfolding whole_step sends_on becomes
step_image u image =
    let w = chunk u image in
    either_way (λ (t : Told (Does Asks WholeUpload)). (becomes u t).length ≡ u.length) refused _ (sends_on u w block_size) (λ n values. refl)
    (λ met. sent_image u w (send_step u.steps (crc_over u.crc w) w block_size))

-- a control write keeps the store's length
control_kept : (device : MockState) (type request value index : ℕ) (bytes store : List ℕ)
    → let c = write_control device type request value index bytes store in
    (length c.leaves ≡ length store) × (c.next.store_length ≡ device.store_length)
unfolding write_control
control_kept device type request value index bytes store =
    let a = append_step device.areas index bytes store in
    either_way (λ (c : Call). (length c.leaves ≡ length store) × (c.next.store_length ≡ device.store_length))
    (λ number values. record { told = refused number values; next = device; leaves = store })
    (control_rules device type request value (length store)) (record { told = a.told; next = with_areas device a.next; leaves = a.leaves })
    (λ n values. (refl, refl)) (λ met. (append_long device.areas index bytes store, refl))

module _ (s : LoadState) where
  load_onward : (told : Told Unit) (t : LoadState) → LoadKept s t → LoadTurns s (loading.onward told t)
  unfolding loading.onward
  load_onward (given done) t k = k
  load_onward (refused number values) t k = k

  carries_turns : (told : Told Asks) (bytes : List ℕ) (t : LoadState) → LoadKept s t → LoadTurns s (carries told bytes t)
  unfolding carries
  carries_turns (given (writes c)) bytes t k =
      let call = write_control t.device c.request_type c.request c.value c.index bytes t.store in
      let kept = control_kept t.device c.request_type c.request c.value c.index bytes t.store in
      load_onward call.told (load_state t.upload call.next call.leaves)
      (record { long = kept.0 ∙ k.long; stored = kept.1 ∙ k.stored; image = k.image })
  carries_turns (given finish) bytes t k = k
  carries_turns (refused number values) bytes t k = k

  load_kept : (image : List ℕ) → LoadTurns s (load_turn image s)
  unfolding load_turn
  load_kept image =
      let step = whole_step s.upload image block_size in
      carries_turns (said step) (sent step) (load_state (becomes s.upload step) s.device s.store)
      (record { long = refl; stored = refl; image = step_image s.upload image })

load_follow : (s : LoadState) (t : Turned Unit LoadState) (rest : LoadState → Ran Unit LoadState) → LoadTurns s t
    → ((next : LoadState) → LoadKept next (rest next).state) → LoadKept s (follow t rest).state
unfolding follow
load_follow s (ends told t) rest k on = k
load_follow s (goes t) rest k on =
    record { long = (on t).long ∙ k.long; stored = (on t).stored ∙ k.stored; image = (on t).image ∙ k.image }

loads_kept : (image : List ℕ) (budget : ℕ) (s : LoadState) → LoadKept s (runs (load_turn image) budget s).state
unfolding runs
loads_kept image zero s = record { long = refl; stored = refl; image = refl }
loads_kept image (suc budget) s =
    load_follow s (load_turn image s) (λ next. runs (load_turn image) budget next) (load_kept s image) (λ next. loads_kept image budget next)

load_again : (s t : LoadState) (flash image : ℕ) → LoadKept s t → Met (load_rules s flash image) → Met (load_rules t flash image)
unfolding load_rules flash_rules
load_again s t flash image k met =
    (met.0, (met.1.0, (rw (k.long, k.stored) met.1.1.0, (rw k.image met.1.1.1.0, tt))))

load_resumed : (image : List ℕ) (flash a b : ℕ) (s : LoadState) → (load_run image flash a s).end ≡ out_of_steps
    → load_run image flash (a + b) s ≡ counted (load_run image flash a s).steps (load_run image flash b (load_run image flash a s).state)
unfolding load_run
load_resumed image flash a b s e =
    checked_resumed (load_turn image) (λ (t : LoadState). load_rules t flash (length image)) a b s
    (load_again s (runs (load_turn image) a s).state flash (length image) (loads_kept image a s)) e

load_whole : (area : ℕ) (image : List ℕ) (flash a : ℕ) (device : MockState) (store : List ℕ)
    → let s = load_state (fresh_whole area (length image)) device store in
    let budget = upload_budget (length image) in
    (load_run image flash a s).end ≡ out_of_steps
    → load_run image flash budget s ≡ counted (load_run image flash a s).steps (load_run image flash budget (load_run image flash a s).state)
unfolding load_run
load_whole area image flash a device store e =
    let s = load_state (fresh_whole area (length image)) device store in
    checked_whole (load_turn image) (λ (t : LoadState). load_rules t flash (length image)) a (upload_budget (length image)) s
    (load_again s (runs (load_turn image) a s).state flash (length image) (loads_kept image a s)) e
    (whole_upload_ends area image flash device store)

-- the upload that was handed back has its old length
load_length : (image : List ℕ) (flash a : ℕ) (s : LoadState) → (load_run image flash a s).end ≡ out_of_steps
    → (load_run image flash a s).state.upload.length ≡ s.upload.length
unfolding load_run
load_length image flash a s e =
    ap (λ (r : Ran Unit LoadState). r.state.upload.length) (spent_met (load_turn image) (λ (t : LoadState). load_rules t flash (length image)) a s e).1
    ∙ (loads_kept image a s).image

module _ (first second whole : LoadRun) (device : MockState) (image store store₁ store₂ store₃ : List ℕ) (flash a : ℕ)
    (out : first.answer ≡ Err OutOfSteps) where
  load_spent : (u : WholeUpload) → loaded.RunMeets first store₁ (load_run image flash a (load_state u device store))
      → (load_run image flash a (load_state u device store)).end ≡ out_of_steps
  unfolding loaded.answer_end
  load_spent u m = sym m.tells ∙ ap (λ (x : Result Unit LoadError). loaded.answer_end x) out

  load_joins : (b all : ℕ) (u : WholeUpload)
      → (let s = load_state u device store in
      load_run image flash all s ≡ counted (load_run image flash a s).steps (load_run image flash b (load_run image flash a s).state))
      → loaded.RunMeets first store₁ (load_run image flash a (load_state u device store))
      → loaded.RunMeets second store₂ (load_run image flash b (load_state first.upload first.device store₁))
      → loaded.RunMeets whole store₃ (load_run image flash all (load_state u device store))
      → (whole ≡ joined_load first second) × (store₃ ≡ store₂)
  load_joins b all u law m n w =
      let s = load_state u device store in
      let on : loaded.RunMeets second store₂ (load_run image flash b (load_run image flash a s).state) =
      subst (λ (t : LoadState). loaded.RunMeets second store₂ (load_run image flash b t)) m.leaves n in
      let both : loaded.RunMeets (joined_load first second) store₂ (load_run image flash all s) =
      subst (λ (r : Ran Unit LoadState). loaded.RunMeets (joined_load first second) store₂ r) (sym law)
      (record { tells = on.tells; steps = ap₂ ◌+◌ m.steps on.steps; leaves = on.leaves }) in
      load-unique.run_unique whole (joined_load first second) store₃ store₂ (load_run image flash all s) w both

  -- RESUMED. `run_upload` from what a `run_upload` that ended in 28 handed back, with the store that it left and the same image
  pub upload_resumed : (u : WholeUpload) (b : ℕ) → loaded.RunMeets first store₁ (load_run image flash a (load_state u device store))
      → loaded.RunMeets second store₂ (load_run image flash b (load_state first.upload first.device store₁))
      → loaded.RunMeets whole store₃ (load_run image flash (a + b) (load_state u device store))
      → (whole ≡ joined_load first second) × (store₃ ≡ store₂)
  upload_resumed u b m n w = load_joins b (a + b) u (load_resumed image flash a b (load_state u device store) (load_spent u m)) m n w

  -- .. `run_whole_upload`, which never ends in 28 from the upload's start: after a `run_upload` that did, it comes to what it comes to from there
  pub whole_upload_resumed : (area : ℕ)
      → loaded.RunMeets first store₁ (load_run image flash a (load_state (fresh_whole area (length image)) device store))
      → loaded.RunMeets second store₂ (load_run image flash (upload_budget first.upload.length) (load_state first.upload first.device store₁))
      → loaded.RunMeets whole store₃ (load_run image flash (upload_budget (length image)) (load_state (fresh_whole area (length image)) device store))
      → (whole ≡ joined_load first second) × (store₃ ≡ store₂)
  whole_upload_resumed area m n w =
      let u = fresh_whole area (length image) in
      let spent = load_spent u m in
      let same : first.upload.length ≡ length image =
      ap (λ (t : LoadState). t.upload.length) m.leaves ∙ load_length image flash a (load_state u device store) spent in
      load_joins (upload_budget (length image)) (upload_budget (length image)) u (load_whole area image flash a device store spent) m
      (subst (λ (k : ℕ). loaded.RunMeets second store₂ (load_run image flash (upload_budget k) (load_state first.upload first.device store₁))) same n) w
