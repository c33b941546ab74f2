-- Programs that the contracts rule out, each at a named input: no proof of any kind can exist for them.
use Prim.Native.Nat.{ℕ, suc, ◌≤◌}
use mathlib.Core.Path.{◌≡◌, refl, ap, sym, ◌∙◌}
use mathlib.Core.List.{List, [], ◌∷◌}
use native.Mathlib.Omega.{arith}
use lib.ListN.{length}
use Rattle.crc.specs.Check.{crc_over}
use Rattle.promise.specs.Told.{Told, given, refused, number, and_then}
use Rattle.promise.specs.Rules.{or_refuse}
use Rattle.promise.proofs.Outcome.{either_way}
use Rattle.maskrom_transfer.specs.declared.MaskRomSteps.TheVariants.{Writing, Done}
use Rattle.promise.specs.Does.{said, sent, after}
use Rattle.maskrom_transfer.specs.Moves.{writing, moves_at}
use Rattle.maskrom_transfer.specs.Sending.{send_step}
use Rattle.maskrom.specs.declared.WholeUpload.{WholeUpload}
use Rattle.maskrom.specs.PartWise.{asks}
use Rattle.maskrom.specs.Whole.{fresh_whole, most, sends_on, whole_step}
use Rattle.mock_base.specs.Told.{error_values}
use Rattle.mock_base.specs.Flash.{flash_rules, flash_sectors, size_told}
use Rattle.mock_base.specs.declared.error.MockTransportError.TheVariants as error
use Rattle.mock.specs.declared.device.MockState.{MockState}
use Rattle.promise.specs.Run.{ends, End, tells, out_of_steps, end_told, Ran, ran, follow, runs}
use Rattle.promise.proofs.Resumed.{never_more}
use Rattle.std.specs.declared.ops.ControlFlow.TheVariants.{Continue, Break}
use Rattle.run_upload.specs.declared.LoadStopError.TheVariants as stop
use Rattle.run_upload.specs.declared.LoadTurned.{LoadTurned}
use Rattle.run_upload.specs.declared.LoadError.TheVariants.{Stopped, OutOfSteps}
use Rattle.run_upload.specs.declared.LoadRun.{LoadRun}
use Rattle.run_upload.specs.Load.{LoadState, load_state, onward, carries, load_turn, load_rules, unstarted, load_run}
use Rattle.run_upload.specs.Answers.{load_stop_told, turn_told, answer_end, TurnMeets, RunMeets}
use Rattle.run_upload.proofs.Checks.{flash_refused, store_refused, unrefused}
use Rattle.run_upload.proofs.Unique.{state_for, state_for_lem}
use Rattle.std.specs.declared.result.Result.TheVariants.{Ok, Err}

-- an upload that has sent all that it had to, and two of which nothing is sent: of no byte, and of one
abbrev sent_all : WholeUpload
sent_all = record { area = 0; length = 0; taken = 0; crc = 0; steps = Done }

abbrev of_nothing : WholeUpload
of_nothing = fresh_whole 0 0

abbrev of_one : WholeUpload
of_one = fresh_whole 0 1

-- a transfer leaves the state with the run, whether it goes on or not
state_onward : (t : Told Unit) (s : LoadState) → state_for (onward t s) ≡ s
unfolding state_for onward
state_onward (given done) s = refl
state_onward (refused n values) s = refl

module _ (device : MockState) (store : List ℕ) where
  turn_ends : load_turn [] (load_state sent_all device store) ≡ ends (given tt) (load_state sent_all device store)
  unfolding load_turn carries whole_step sends_on send_step or_refuse and_then said sent after moves_at crc_over asks most
  turn_ends = refl

  turn_differs : load_turn [] (load_state of_one device store) ≡ ends (refused 27 []) (load_state of_one device store)
  unfolding load_turn carries whole_step or_refuse said sent after
  turn_differs = refl

  module _ (r : LoadTurned) (left : List ℕ) where
    -- a turn that goes on for ever
    pub never_ending : TurnMeets r left (load_turn [] (load_state sent_all device store)) → r.turn ≡ Continue tt → ⊥
    unfolding turn_told
    never_ending meets e =
        let s = load_state r.upload r.device left in
        let clash : turn_told (Continue tt) s ≡ ends (given tt) (load_state sent_all device store) = ap (λ t. turn_told t s) (sym e) ∙ meets.tells ∙ turn_ends in
        let z : ◌≡◌ {A = ℕ} 0 1 = cc in omega arith

    -- a turn that calls 27 a 20
    pub one_refusal_for_another : TurnMeets r left (load_turn [] (load_state of_one device store)) → r.turn ≡ Break (Err stop.OutputTooShort) → ⊥
    unfolding turn_told load_stop_told
    one_refusal_for_another meets e =
        let s = load_state r.upload r.device left in
        let clash : turn_told (Break (Err stop.OutputTooShort)) s ≡ ends (refused 27 []) (load_state of_one device store) = ap (λ t. turn_told t s) (sym e) ∙ meets.tells ∙ turn_differs in
        let z : ◌≡◌ {A = ℕ} 20 27 = cc in omega arith

    -- an upload that stays where it stood
    pub upload_stays : TurnMeets r left (load_turn [] (load_state of_nothing device store)) → r.upload ≡ of_nothing → ⊥
    unfolding load_turn carries whole_step sends_on send_step or_refuse and_then said sent after moves_at writing crc_over asks most
    upload_stays meets e =
        let s = load_state r.upload r.device left in
        let states : s ≡ _ = sym (state_for_lem r.turn s) ∙ ap state_for meets.tells ∙ state_onward _ _ in
        let stood : Writing ≡ Done = ap (λ (u : WholeUpload). u.steps) (sym e) ∙ ap (λ (x : LoadState). x.upload.steps) states in
        let z : ◌≡◌ {A = ℕ} 0 1 = cc in omega arith

-- one number for every stop
pub one_number_for_all : (n : ℕ) → n ≡ number (load_stop_told (Err stop.OutputTooShort)) → n ≡ number (load_stop_told (Err stop.ImageDiffers)) → ⊥
unfolding number load_stop_told
one_number_for_all n e f = omega arith

-- a finish told as a refusal
pub finish_a_refusal : (n : ℕ) → n ≡ number (load_stop_told (Ok tt)) → 1 ≤ n → ⊥
unfolding number load_stop_told
finish_a_refusal n e f = omega arith

-- 28 told as 0, as if the upload were there
pub spent_is_done : (n : ℕ) → n ≡ number (end_told (answer_end (Err OutOfSteps))) → n ≡ 0 → ⊥
unfolding number end_told answer_end
spent_is_done n e f = omega arith

-- every end of a run told as 28
pub ended_is_spent : (n : ℕ) → n ≡ number (end_told (answer_end (Ok tt))) → n ≡ 28 → ⊥
unfolding number end_told answer_end load_stop_told
ended_is_spent n e f = omega arith

-- a run that takes a step more than its budget, at any input
pub a_step_too_many : (r : LoadRun) (image left : List ℕ) (flash budget : ℕ) (s : LoadState) → RunMeets r left (load_run image flash budget s) → r.steps ≡ suc budget → ⊥
unfolding load_run
a_step_too_many r image left flash budget s meets e =
    let most-steps : (load_run image flash budget s).steps ≤ budget =
    either_way (λ (w : Ran Unit LoadState). w.steps ≤ budget) (unstarted s) (load_rules s flash (length image)) (runs (load_turn image) budget s)
    (λ n values. omega arith) (λ met. never_more (load_turn image) budget s) in
    let steps : r.steps ≡ (load_run image flash budget s).steps = meets.steps in
    omega arith

-- 61 told of a flash that is no whole number of sectors and has too many: 60 comes first
pub sectors_before_size : (r : LoadRun) (image left : List ℕ) (budget : ℕ) (s : LoadState) → RunMeets r left (load_run image 33554945 budget s)
    → r.answer ≡ Err (Stopped (stop.Device error.TooManySectors)) → ⊥
unfolding answer_end load_stop_told error_values size_told flash_sectors flash_rules or_refuse
sectors_before_size r image left budget s meets e =
    let run = flash_refused image 33554945 budget s (Err (error.FlashSize 33554945)) (error.FlashSize 33554945) refl refl in
    let clash : ◌≡◌ {A = End Unit} (tells (refused 61 [])) (tells (refused 60 (33554945 ∷ []))) = ap answer_end (sym e) ∙ meets.tells ∙ ap (λ w. w.end) run in
    let z : ◌≡◌ {A = ℕ} 61 60 = cc in omega arith

module _ (r : LoadRun) (device : MockState) (left : List ℕ) (budget : ℕ) where
  -- 27 told where the store is of another length, too: 65 comes first
  pub image_before_store : device.store_length ≡ 0 → RunMeets r left (load_run [] 0 budget (load_state of_one device (0 ∷ []))) → r.answer ≡ Err (Stopped stop.ImageDiffers) → ⊥
  unfolding answer_end load_stop_told size_told flash_sectors flash_rules or_refuse
  image_before_store none meets e =
      let run = store_refused [] 0 budget (load_state of_one device (0 ∷ [])) (Ok 0) 0 refl refl (λ h. omega arith) in
      let clash : ◌≡◌ {A = End Unit} (tells (refused 27 [])) (tells (refused 65 [])) = ap answer_end (sym e) ∙ meets.tells ∙ ap (λ w. w.end) run in
      let z : ◌≡◌ {A = ℕ} 27 65 = cc in omega arith

  module _ (store : List ℕ) (stored : length store ≡ device.store_length) where
    at_the_finish : load_run [] 0 (suc budget) (load_state sent_all device store) ≡ ran (tells (given tt)) 1 (load_state sent_all device store)
    unfolding runs follow size_told flash_sectors flash_rules or_refuse
    at_the_finish = unrefused [] 0 (suc budget) (load_state sent_all device store) (Ok 0) 0 refl refl stored refl ∙ rw (turn_ends device store)

    -- 28 told before the budget is used
    pub out_of_steps_early : RunMeets r left (load_run [] 0 (suc budget) (load_state sent_all device store)) → r.answer ≡ Err OutOfSteps → ⊥
    unfolding answer_end
    out_of_steps_early meets e =
        let clash : ◌≡◌ {A = End Unit} out_of_steps (tells (given tt)) = ap answer_end (sym e) ∙ meets.tells ∙ ap (λ w. w.end) at_the_finish in
        let z : ◌≡◌ {A = ℕ} 0 1 = cc in omega arith

    -- a run that takes no step
    pub never_a_step : RunMeets r left (load_run [] 0 (suc budget) (load_state sent_all device store)) → r.steps ≡ 0 → ⊥
    never_a_step meets e = let one : r.steps ≡ 1 = meets.steps ∙ ap (λ w. w.steps) at_the_finish in omega arith

    -- a run that is always refused, whatever it tells
    pub always_refusing : (n : ℕ) (values : List ℕ) → RunMeets r left (load_run [] 0 (suc budget) (load_state sent_all device store)) → answer_end r.answer ≡ tells (refused n values) → ⊥
    always_refusing n values meets e =
        let clash : ◌≡◌ {A = End Unit} (tells (refused n values)) (tells (given tt)) = sym e ∙ meets.tells ∙ ap (λ w. w.end) at_the_finish in
        let z : ◌≡◌ {A = ℕ} 0 1 = cc in omega arith
