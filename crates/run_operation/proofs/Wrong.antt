-- Programs that the contracts rule out, each at a named input: no proof of any kind can exist for them. `run` and `run_write` are ruled by their
-- budget, `run_whole` and `run_whole_write` are at a budget of 4.
use Prim.Native.Nat.{ℕ, suc, ◌≤◌}
use mathlib.Core.Path.{◌≡◌, refl, ap, sym, ◌∙◌}
use mathlib.Core.List.{List, [], ◌∷◌}
use native.Mathlib.Omega.{arith}
use lib.Dec.{lit≤}
use lib.ListN.{length}
use Rattle.promise.specs.Told.{given, refused, number}
use Rattle.promise.specs.Rules.{or_refuse}
use Rattle.promise.proofs.Outcome.{either_way}
use Rattle.protocol_codes.specs.declared.Status.TheVariants.{SUCCESS}
use Rattle.protocol.specs.Commands.{erase_lba_command, read_lba_command}
use Rattle.mock_base.specs.Told.{error_values}
use Rattle.mock_base.specs.Flash.{flash_rules, flash_sectors, size_told}
use Rattle.mock_base.specs.declared.error.MockTransportError.TheVariants as error
use Rattle.operation_finish.specs.declared.Beside.{Beside}
use Rattle.operation_finish.specs.declared.Kind.TheVariants as kind
use Rattle.operation_finish.specs.declared.UsbReply.TheVariants as usb
use Rattle.operation_finish.specs.Reply.{Reply, nothing, finish_told}
use Rattle.operation_finish.specs.Finish.{reply_by}
use Rattle.operation_finish.proofs.Cases.{finish_reply}
use Rattle.operation_finish.proofs.Wrong.{sent, read_sent}
use Rattle.operation.specs.declared.steps.UsbOperation.{UsbOperation}
use Rattle.operation.specs.Record.{fresh, with_status}
use Rattle.mock.specs.declared.device.MockState.{MockState}
use Rattle.promise.specs.Run.{End, tells, out_of_steps, end_told, Ran, ran, follow, runs}
use Rattle.promise.proofs.Resumed.{never_more}
use Rattle.run_turn.specs.declared.StopError.TheVariants as stop
use Rattle.run_turn.specs.Turn.{UsbState, usb_state, usb_turn}
use Rattle.run_turn.specs.Answers.{stop_told}
use Rattle.run_turn.proofs.Wrong.{at_finish, rearmed, told_at, turn_ends}
use Rattle.run_operation.specs.declared.UsbRun.{UsbRun}
use Rattle.run_operation.specs.Run.{sector_data, run_rules, unstarted, usb_run}
use Rattle.run_operation.specs.Answers.{answer_end, RunMeets}
use Rattle.run_operation.proofs.Checks.{flash_refused, store_refused, unrefused}
use Rattle.std.specs.declared.result.Result.TheVariants.{Ok, Err}
use Rattle.std.specs.Prelude.{Result}
use Rattle.operation_finish.specs.declared.UsbReply.{UsbReply}
use Rattle.run_operation.specs.declared.RunError.{RunError}
use Rattle.run_operation.specs.declared.RunError.TheVariants as run_error

-- an operation whose status, with its tag, is all that came, and a read of a sector
abbrev erased : UsbOperation
erased = with_status (fresh kind.Nothing (erase_lba_command 7 0 1)) (sent SUCCESS)

abbrev of_sector : UsbOperation
of_sector = fresh kind.Read (read_lba_command 7 0 1)

erased_told : told_at erased ≡ given nothing
unfolding reply_by
erased_told = finish_reply kind.Nothing 7 0 (sent SUCCESS) erased.«data» _ (read_sent SUCCESS) refl refl

-- a run that takes a step more than its budget, at any input
pub a_step_too_many : (r : UsbRun) (flash bytes : List ℕ) (store budget : ℕ) (s : UsbState) → RunMeets r flash bytes (usb_run s store budget) → r.steps ≡ suc budget → ⊥
unfolding usb_run
a_step_too_many r flash bytes store budget s meets e =
    let most-steps : (usb_run s store budget).steps ≤ budget =
    either_way (λ (w : Ran Reply UsbState). w.steps ≤ budget) (unstarted s) (run_rules s store) (runs usb_turn budget s)
    (λ n values. omega arith) (λ met. never_more usb_turn budget s) in
    let steps : r.steps ≡ (usb_run s store budget).steps = meets.steps in
    omega arith

module _ (r : UsbRun) (device : MockState) (flash bytes : List ℕ) (store budget : ℕ) where
  -- the end that the wrong answer tells
  told_by : (a : Result UsbReply RunError) (run : Ran Reply UsbState) (told : End Reply) → RunMeets r flash bytes run → r.answer ≡ a → run.end ≡ told
      → answer_end a r.beside ≡ told
  told_by a run told meets e f = ap (λ (x : Result UsbReply RunError). answer_end x r.beside) (sym e) ∙ meets.tells ∙ f

  -- 61 told of a flash that is no whole number of sectors and has too many: 60 comes first
  pub sectors_before_size : (op : UsbOperation) (lent lent-data : List ℕ) → length lent ≡ 33554945 → RunMeets r flash bytes (usb_run (usb_state op device lent lent-data) store budget)
      → r.answer ≡ Err (run_error.Stopped (stop.Device error.TooManySectors)) → ⊥
  unfolding answer_end stop_told error_values size_told flash_sectors flash_rules or_refuse
  sectors_before_size op lent lent-data long meets e =
      let s = usb_state op device lent lent-data in
      let told : size_told (Err (error.FlashSize 33554945)) ≡ flash_sectors (length lent) = ap flash_sectors (sym long) in
      let run = flash_refused s store budget (error.FlashSize 33554945) told in
      let clash : ◌≡◌ {A = End Reply} (tells (refused 61 [])) (tells (refused 60 (33554945 ∷ []))) = told_by _ _ _ meets e (ap (λ (w : Ran Reply UsbState). w.end) run) in
      let z : ◌≡◌ {A = ℕ} 61 60 = cc in omega arith

  -- 27 told where the store is of another length, too: 65 comes first
  pub data_before_store : (store ≡ device.store_length → ⊥) → RunMeets r flash bytes (usb_run (usb_state of_sector device [] []) store budget)
      → r.answer ≡ Err (run_error.Stopped stop.DataDiffers) → ⊥
  unfolding answer_end stop_told flash_sectors flash_rules or_refuse
  data_before_store other meets e =
      let run = store_refused (usb_state of_sector device [] []) store budget 0 refl other in
      let clash : ◌≡◌ {A = End Reply} (tells (refused 27 [])) (tells (refused 65 [])) = told_by _ _ _ meets e (ap (λ (w : Ran Reply UsbState). w.end) run) in
      let z : ◌≡◌ {A = ℕ} 27 65 = cc in omega arith

  -- a step taken with a store of another length
  pub store_unchecked : (store ≡ device.store_length → ⊥) → RunMeets r flash bytes (usb_run (usb_state (at_finish erased) device [] []) store budget) → 1 ≤ r.steps → ⊥
  unfolding flash_sectors flash_rules or_refuse
  store_unchecked other meets e =
      let none : r.steps ≡ 0 = meets.steps ∙ ap (λ (w : Ran Reply UsbState). w.steps) (store_refused (usb_state (at_finish erased) device [] []) store budget 0 refl other) in
      omega arith

  module _ (stored : store ≡ device.store_length) where
    at_the_finish : usb_run (usb_state (at_finish erased) device [] []) store (suc budget) ≡ ran (tells (given nothing)) 1 (usb_state (rearmed erased) device [] [])
    unfolding runs follow sector_data flash_sectors flash_rules or_refuse
    at_the_finish =
        unrefused (usb_state (at_finish erased) device [] []) store (suc budget) 0 refl stored (lit≤ tt)
        ∙ rw (turn_ends erased device [] [], erased_told)

    -- 28 told before the budget is used
    pub out_of_steps_early : RunMeets r flash bytes (usb_run (usb_state (at_finish erased) device [] []) store (suc budget)) → r.answer ≡ (Err run_error.OutOfSteps) → ⊥
    unfolding answer_end
    out_of_steps_early meets e =
        let clash : ◌≡◌ {A = End Reply} out_of_steps (tells (given nothing)) = told_by _ _ _ meets e (ap (λ (w : Ran Reply UsbState). w.end) at_the_finish) in
        let z : ◌≡◌ {A = ℕ} 0 1 = cc in omega arith

    -- a run that takes no step
    pub never_a_step : RunMeets r flash bytes (usb_run (usb_state (at_finish erased) device [] []) store (suc budget)) → r.steps ≡ 0 → ⊥
    never_a_step meets e = let one : r.steps ≡ 1 = meets.steps ∙ ap (λ (w : Ran Reply UsbState). w.steps) at_the_finish in omega arith

    -- a run that is always refused, whatever it tells
    pub always_refusing : (n : ℕ) (values : List ℕ) → RunMeets r flash bytes (usb_run (usb_state (at_finish erased) device [] []) store (suc budget))
        → answer_end r.answer r.beside ≡ tells (refused n values) → ⊥
    always_refusing n values meets e =
        let clash : ◌≡◌ {A = End Reply} (tells (refused n values)) (tells (given nothing)) = sym e ∙ meets.tells ∙ ap (λ (w : Ran Reply UsbState). w.end) at_the_finish in
        let z : ◌≡◌ {A = ℕ} 0 1 = cc in omega arith

-- 28 told as 0, as if the operation were there
pub spent_is_done : (n : ℕ) (b : Beside) → n ≡ number (end_told (answer_end (Err run_error.OutOfSteps) b)) → n ≡ 0 → ⊥
unfolding number end_told answer_end
spent_is_done n b e f = omega arith

-- every end of a run told as 28
pub ended_is_spent : (n : ℕ) (b : Beside) → n ≡ number (end_told (answer_end (Ok usb.Nothing) b)) → n ≡ 28 → ⊥
unfolding number end_told answer_end stop_told finish_told
ended_is_spent n b e f = omega arith
