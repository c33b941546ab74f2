-- A run of an upload, at any end and budget, makes of a record that calls from a fresh start made another such record.
use Prim.Native.Nat.{ℕ, zero, suc}
use mathlib.Core.Path.{ap, sym, subst}
use mathlib.Core.List.{List}
use lib.ListN.{length}
use Rattle.promise.specs.Told.{Told, given, refused}
use Rattle.promise.specs.Does.{said, sent, after}
use Rattle.promise.specs.Run.{Turned, ends, goes, Ran, follow, runs}
use Rattle.promise.proofs.Outcome.{either_way}
use Rattle.maskrom_transfer.specs.Moves.{block_size}
use Rattle.maskrom.specs.declared.WholeUpload.{WholeUpload}
use Rattle.maskrom.specs.Answers.{Asks, writes, finish}
use Rattle.maskrom.specs.Whole.{whole_step}
use Rattle.mock_base.specs.declared.cells.Variety.{Variety}
use Rattle.mock_base.specs.declared.config.MockDeviceConfig.{MockDeviceConfig}
use Rattle.mock.specs.declared.device.MockState.{MockState}
use Rattle.mock.specs.Device.{write_control}
use Rattle.mock.specs.Made.{Made, controls}
use Rattle.run_upload.specs.declared.LoadTurned.{LoadTurned}
use Rattle.run_upload.specs.declared.LoadRun.{LoadRun}
use Rattle.run_upload.specs.Load.{LoadState, load_state, onward, carries, load_turn, load_rules, unstarted, load_run}
use Rattle.run_upload.specs.Answers.{turn_told, TurnMeets, RunMeets}
use Rattle.std.specs.declared.ops.ControlFlow.{ControlFlow}
use Rattle.run_upload.specs.declared.LoadStopError.{LoadStopError}
use Rattle.std.specs.Prelude.{Result}
use Rattle.std.specs.declared.ops.ControlFlow.TheVariants.{Continue, Break}

module _ (v : Variety) (config : MockDeviceConfig) (n : ℕ) where
  abbrev Turns : Turned Unit LoadState → Type 0
  Turns (ends told s) = Made v config n s.device
  Turns (goes s) = Made v config n s.device

  onward_makes : (told : Told Unit) (s : LoadState) → Made v config n s.device → Turns (onward told s)
  unfolding onward
  onward_makes (given done) s made = made
  onward_makes (refused number values) s made = made

  carries_makes : (told : Told Asks) (bytes : List ℕ) (s : LoadState) → Made v config n s.device → Turns (carries told bytes s)
  unfolding carries
  carries_makes (given (writes c)) bytes s made =
      let call = write_control s.device c.request_type c.request c.value c.index bytes s.store in
      onward_makes call.told (load_state s.upload call.next call.leaves)
      (controls s.device c.request_type c.request c.value c.index bytes s.store made)
  carries_makes (given finish) bytes s made = made
  carries_makes (refused number values) bytes s made = made

  turn_makes : (image : List ℕ) (s : LoadState) → Made v config n s.device → Turns (load_turn image s)
  unfolding load_turn
  turn_makes image s made =
      let step = whole_step s.upload image block_size in
      carries_makes (said step) (sent step) (load_state (after s.upload step) s.device s.store) made

  follow_makes : (t : Turned Unit LoadState) (rest : LoadState → Ran Unit LoadState) → Turns t
      → ((next : LoadState) → Made v config n next.device → Made v config n (rest next).state.device) → Made v config n (follow t rest).state.device
  unfolding follow
  follow_makes (ends told s) rest made on = made
  follow_makes (goes s) rest made on = on s made

  runs_make : (image : List ℕ) (budget : ℕ) (s : LoadState) → Made v config n s.device → Made v config n (runs (load_turn image) budget s).state.device
  unfolding runs
  runs_make image zero s made = made
  runs_make image (suc budget) s made =
      follow_makes (load_turn image s) (λ next. runs (load_turn image) budget next) (turn_makes image s made) (λ next on. runs_make image budget next on)

  turned_makes : (t : ControlFlow (Result Unit LoadStopError) Unit) (s : LoadState) → Turns (turn_told t s) → Made v config n s.device
  unfolding turn_told
  turned_makes (Continue u) s made = made
  turned_makes (Break stop) s made = made

  -- over the contract of `load_turn`
  pub upload_turn_makes : (r : LoadTurned) (u : WholeUpload) (device : MockState) (image store left : List ℕ) → Made v config n device
      → TurnMeets r left (load_turn image (load_state u device store)) → Made v config n r.device
  upload_turn_makes r u device image store left made m =
      turned_makes r.turn (load_state r.upload r.device left) (subst Turns (sym m.tells) (turn_makes image (load_state u device store) made))

  -- what the definition of a run leaves
  pub upload_leaves_made : (u : WholeUpload) (device : MockState) (image store : List ℕ) (flash budget : ℕ) → Made v config n device
      → Made v config n (load_run image flash budget (load_state u device store)).state.device
  unfolding load_run
  upload_leaves_made u device image store flash budget made =
      let s = load_state u device store in
      either_way (λ (w : Ran Unit LoadState). Made v config n w.state.device) (unstarted s) (load_rules s flash (length image))
      (runs (load_turn image) budget s) (λ number values. made) (λ met. runs_make image budget s made)

  -- over the contract of `run_upload`, and so of `run_whole_upload`
  pub upload_makes : (r : LoadRun) (u : WholeUpload) (device : MockState) (image store left : List ℕ) (flash budget : ℕ) → Made v config n device
      → RunMeets r left (load_run image flash budget (load_state u device store)) → Made v config n r.device
  upload_makes r u device image store left flash budget made m =
      subst (λ (d : MockState). Made v config n d) (sym (ap (λ (t : LoadState). t.device) m.leaves))
      (upload_leaves_made u device image store flash budget made)
