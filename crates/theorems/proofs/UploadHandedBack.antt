-- The whole upload that a turn or a run hands back, at any end and budget, is one that calls from its start can make: its steps took the bytes that follow
-- in the image.
use Prim.Native.Nat.{ℕ, zero, suc, ◌+◌, min}
use mathlib.Core.Path.{◌≡◌, refl, ap, sym, subst, ◌∙◌}
use mathlib.Core.List.{List, [], ◌++◌, append-nil, append_assoc}
use native.Mathlib.Decide.{dec_lt, ℕ_discrete}
use lib.ListN.{length, take, drop, replicate, length-take, length-replicate}
use lib.Seq.{take-add}
use Rattle.promise.specs.Told.{Told, given, refused}
use Rattle.promise.specs.Bytes.{front}
use Rattle.promise.specs.Does.{Does, said, sent, after}
use Rattle.promise.specs.Run.{Turned, ends, goes, Ran, follow, runs}
use Rattle.promise.proofs.Outcome.{either_way}
use Rattle.maskrom_transfer.specs.Moves.{block_size}
use Rattle.maskrom_transfer.proofs.Lists.{take_min}
use Rattle.maskrom.specs.declared.WholeUpload.{WholeUpload}
use Rattle.maskrom.specs.declared.WholeStepped.{WholeStepped}
use Rattle.maskrom.specs.Answers.{Asks, writes, finish}
use Rattle.maskrom.specs.Code.{stepped_with}
use Rattle.maskrom.specs.Whole.{most, chunk, whole_step}
use Rattle.maskrom.specs.Calls.{StepMeets, unless_refused, sent_of, step_call}
use Rattle.maskrom.specs.Made.{WholeMade}
use Rattle.maskrom.proofs.Branches.{step_either}
use Rattle.mock.specs.declared.device.MockState.{MockState}
use Rattle.run_upload.specs.declared.LoadTurned.{LoadTurned}
use Rattle.run_upload.specs.declared.LoadRun.{LoadRun}
use Rattle.run_upload.specs.Load.{LoadState, load_state, onward, carries, load_turn, load_rules, unstarted, load_run}
use Rattle.run_upload.specs.Answers.{turn_told, TurnMeets, RunMeets}
use Rattle.theorems.proofs.LinkedWhole.{whole_told}
use Rattle.std.specs.declared.ops.ControlFlow.{ControlFlow}
use Rattle.run_upload.specs.declared.LoadStopError.{LoadStopError}
use Rattle.std.specs.Prelude.{Result}
use Rattle.std.specs.declared.ops.ControlFlow.TheVariants.{Continue, Break}

-- a call of `step` has an answer, at every record
pub whole_answered : (u : WholeUpload) (image before : List ℕ) → (r : WholeStepped) × (now : List ℕ) × StepMeets r u image before now
whole_answered u image before =
    let t = whole_step u image (length before) in
    let s = whole_told u image (length before) (dec_lt (length before) 4096) (ℕ_discrete (length image) u.length) in
    (stepped_with s.0 (after u t), front (sent t) before, record { tells = s.1; next = refl; leaves = refl })

-- a step that is lent an image of which all before it was taken takes on from there
took_on : (n k : ℕ) (image p : List ℕ) → p ≡ take n image → let w = take k (drop n image) in p ++ w ≡ take (n + length w) image
took_on n k image p e =
    let w = take k (drop n image) in
    let count : length w ≡ min k (length (drop n image)) = length-take k (drop n image) in
    ap (λ (q : List ℕ). q ++ w) e
    ∙ ap (λ (q : List ℕ). take n image ++ q) (sym (ap (λ (j : ℕ). take j (drop n image)) count ∙ take_min k (drop n image)))
    ∙ sym (take-add n (length w) image)

took_step : (image p : List ℕ) (here : WholeUpload) → p ≡ take here.taken image → (r : WholeStepped) (before now : List ℕ)
    → StepMeets r here image before now → p ++ sent_of r here image ≡ take r.next.taken image
unfolding said after unless_refused
took_step image p here so_far r before now meets =
    rw (meets.tells, meets.next)
    (step_either (λ (t : Told (Does Asks WholeUpload)). p ++ unless_refused (said t) (chunk here image) ≡ take (after here t).taken image) here image (length before)
    (append-nil p ∙ so_far) (append-nil p ∙ so_far) (λ l. took_on here.taken (most here.steps) image p so_far))

-- what holds of the state that a turn leaves, whether it is the last or not
abbrev Leaves : (LoadState → Type 0) → Turned Unit LoadState → Type 0
Leaves P (ends told s) = P s
Leaves P (goes s) = P s

left_by_turn : (P : LoadState → Type 0) (t : ControlFlow (Result Unit LoadStopError) Unit) (s : LoadState) → Leaves P (turn_told t s) → P s
unfolding turn_told
left_by_turn P (Continue u) s p = p
left_by_turn P (Break stop) s p = p

module _ (lends : List ℕ → Type 0) (area : ℕ) (image p : List ℕ) (first : WholeUpload) (lent : List ℕ) (lend : lends lent) where
  -- the bytes q were taken since `first`: those of the lent image behind what that had taken
  abbrev TookOn : WholeUpload → Type 0
  TookOn u = (q : List ℕ) × (WholeMade lends area image (p ++ q) u × (take first.taken lent ++ q ≡ take u.taken lent))

  took_none : WholeMade lends area image p first → TookOn first
  took_none made = (
    [],
    (subst (λ (l : List ℕ). WholeMade lends area image l first) (sym (append-nil p)) made, append-nil (take first.taken lent)),
  )

  step_takes_on : (u : WholeUpload) (before : List ℕ) → TookOn u → TookOn (after u (whole_step u lent (length before)))
  step_takes_on u before so_far =
      let q = so_far.0 in
      let made = so_far.1.0 in
      let a = whole_answered u lent before in
      let r = a.0 in
      let w = sent_of r u lent in
      let next : WholeMade lends area image ((p ++ q) ++ w) r.next =
      record { begun = made.begun; starts = made.starts; calls = step_call (p ++ q) u made.calls lent lend r before a.1 a.2 } in
      let bytes : (take first.taken lent ++ q) ++ w ≡ take r.next.taken lent = took_step lent (take first.taken lent ++ q) u so_far.1.1 r before a.1 a.2 in
      subst TookOn a.2.next (
        q ++ w,
        (
          subst (λ (l : List ℕ). WholeMade lends area image l r.next) (append_assoc p q w) next,
          sym (append_assoc (take first.taken lent) q w) ∙ bytes,
        ),
      )

  room_takes_on : (u : WholeUpload) (room : ℕ) → TookOn u → TookOn (after u (whole_step u lent room))
  room_takes_on u room so_far =
      let before : List ℕ = replicate room 0 in
      subst (λ (k : ℕ). TookOn (after u (whole_step u lent k))) (length-replicate {A = ℕ} room 0) (step_takes_on u before so_far)

  abbrev On : LoadState → Type 0
  On s = TookOn s.upload

  onward_on : (told : Told Unit) (s : LoadState) → On s → Leaves On (onward told s)
  unfolding onward
  onward_on (given done) s so_far = so_far
  onward_on (refused number values) s so_far = so_far

  carries_on : (told : Told Asks) (bytes : List ℕ) (s : LoadState) → On s → Leaves On (carries told bytes s)
  unfolding carries
  carries_on (given (writes c)) bytes s so_far = onward_on _ _ so_far
  carries_on (given finish) bytes s so_far = so_far
  carries_on (refused number values) bytes s so_far = so_far

  turn_on : (s : LoadState) → On s → Leaves On (load_turn lent s)
  unfolding load_turn
  turn_on s so_far =
      let step = whole_step s.upload lent block_size in
      carries_on (said step) (sent step) (load_state (after s.upload step) s.device s.store) (room_takes_on s.upload block_size so_far)

  follow_on : (t : Turned Unit LoadState) (rest : LoadState → Ran Unit LoadState) → Leaves On t → ((next : LoadState) → On next → On (rest next).state)
      → On (follow t rest).state
  unfolding follow
  follow_on (ends told s) rest so_far on = so_far
  follow_on (goes s) rest so_far on = on s so_far

  runs_on : (budget : ℕ) (s : LoadState) → On s → On (runs (load_turn lent) budget s).state
  unfolding runs
  runs_on zero s so_far = so_far
  runs_on (suc budget) s so_far = follow_on (load_turn lent s) (λ next. runs (load_turn lent) budget next) (turn_on s so_far) (λ next on. runs_on budget next on)

  -- over the contract of `load_turn`
  pub upload_turn_hands_back_made : (r : LoadTurned) (device : MockState) (store left : List ℕ) → WholeMade lends area image p first
      → TurnMeets r left (load_turn lent (load_state first device store))
      → (q : List ℕ) × (WholeMade lends area image (p ++ q) r.upload × (take first.taken lent ++ q ≡ take r.upload.taken lent))
  upload_turn_hands_back_made r device store left made m =
      left_by_turn On r.turn (load_state r.upload r.device left)
      (subst (Leaves On) (sym m.tells) (turn_on (load_state first device store) (took_none made)))

  -- over the contract of `run_upload`, and so of `run_whole_upload`
  pub upload_run_hands_back_made : (r : LoadRun) (device : MockState) (store left : List ℕ) (flash budget : ℕ) → WholeMade lends area image p first
      → RunMeets r left (load_run lent flash budget (load_state first device store))
      → (q : List ℕ) × (WholeMade lends area image (p ++ q) r.upload × (take first.taken lent ++ q ≡ take r.upload.taken lent))
  unfolding load_run
  upload_run_hands_back_made r device store left flash budget made m =
      let s = load_state first device store in
      subst TookOn (sym (ap (λ (t : LoadState). t.upload) m.leaves))
      (either_way (λ (w : Ran Unit LoadState). On w.state) (unstarted s) (load_rules s flash (length lent)) (runs (load_turn lent) budget s)
      (λ number values. took_none made) (λ met. runs_on budget s (took_none made)))
