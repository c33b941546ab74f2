-- Two turns and two runs that a contract allows are equal: each is read off what it tells.
use Prim.Native.Nat.{ℕ}
use mathlib.Core.Path.{◌≡◌, refl, ap, ap₂, sym, ◌∙◌}
use mathlib.Core.Bool.{false}
use mathlib.Core.List.{List}
use lib.Dec.{eqb}
use Rattle.promise.specs.Told.{Told, given, refused}
use Rattle.promise.specs.Rules.{pick}
use Rattle.protocol_bytes.specs.Signature.{no_signature}
use Rattle.mock_base.specs.Told.{error_number, result_told}
use Rattle.mock_base.proofs.Unique.{result_from, result_from_lem}
use Rattle.mock_base.specs.declared.error.MockTransportError.{MockTransportError}
use Rattle.mock_base.specs.declared.error.MockTransportError.TheVariants as error
use Rattle.promise.specs.Run.{Turned, ends, goes, End, tells, out_of_steps, Ran}
use Rattle.std.specs.declared.ops.ControlFlow.{ControlFlow}
use Rattle.std.specs.declared.ops.ControlFlow.TheVariants.{Continue, Break}
use Rattle.run_upload.specs.declared.LoadStopError.{LoadStopError}
use Rattle.run_upload.specs.declared.LoadStopError.TheVariants as stop
use Rattle.run_upload.specs.declared.LoadError.{LoadError}
use Rattle.run_upload.specs.declared.LoadError.TheVariants.{Stopped, OutOfSteps}
use Rattle.run_upload.specs.declared.LoadTurned.{LoadTurned}
use Rattle.run_upload.specs.declared.LoadRun.{LoadRun}
use Rattle.run_upload.specs.Load.{LoadState, load_state}
use Rattle.run_upload.specs.Code.{ended}
use Rattle.run_upload.specs.Answers.{load_stop_told, turn_told, answer_end, TurnMeets, RunMeets}
use Rattle.std.specs.Prelude.{Result}
use Rattle.std.specs.declared.result.Result.TheVariants.{Ok, Err}

unfoldable stop_by : Result Unit MockTransportError → Result Unit LoadStopError
stop_by (Ok done) = Ok tt
stop_by (Err e) = Err (stop.Device e)

unfoldable stop_for : Told Unit → Result Unit LoadStopError
stop_for (given done) = Ok tt
stop_for (refused n values) = pick (eqb n 20) (Err stop.OutputTooShort) (pick (eqb n 27) (Err stop.ImageDiffers) (stop_by (result_from (refused n values))))

-- no number of the device's is 20 or 27
apart : (e : MockTransportError) → (eqb (error_number e) 20 ≡ false) × (eqb (error_number e) 27 ≡ false)
apart (error.InvalidTransferLength expected actual) = (refl, refl)
apart (error.UnsupportedControl type request value) = (refl, refl)
apart (error.InvalidReset opcode) = (refl, refl)
apart (error.UnknownCommand code) = (refl, refl)
apart error.UnexpectedRead = (refl, refl)
apart error.UnexpectedWrite = (refl, refl)
apart (error.CommandBlockError e) = (refl, refl)
apart error.OutOfRange = (refl, refl)
apart error.NoSlot = (refl, refl)
apart error.SlotFull = (refl, refl)
apart (error.FlashSize n) = (refl, refl)
apart error.TooManySectors = (refl, refl)
apart error.ZeroBlockSize = (refl, refl)
apart error.UnalignedErase = (refl, refl)
apart error.StoreLength = (refl, refl)

stop_for_lem : (s : Result Unit LoadStopError) → stop_for (load_stop_told s) ≡ s
unfolding stop_for load_stop_told stop_by result_told
stop_for_lem (Ok done) = refl
stop_for_lem (Err (stop.Device e)) = rw ((apart e).0, (apart e).1) (ap stop_by (result_from_lem (Err e) no_signature))
stop_for_lem (Err stop.OutputTooShort) = refl
stop_for_lem (Err stop.ImageDiffers) = refl

unfoldable turn_for : Turned Unit LoadState → ControlFlow (Result Unit LoadStopError) Unit
turn_for (goes s) = Continue tt
turn_for (ends told s) = Break (stop_for told)

unfoldable pub state_for : Turned Unit LoadState → LoadState
state_for (goes s) = s
state_for (ends told s) = s

turn_for_lem : (t : ControlFlow (Result Unit LoadStopError) Unit) (s : LoadState) → turn_for (turn_told t s) ≡ t
unfolding turn_for turn_told
turn_for_lem (Continue on) s = refl
turn_for_lem (Break x) s = ap Break (stop_for_lem x)

pub state_for_lem : (t : ControlFlow (Result Unit LoadStopError) Unit) (s : LoadState) → state_for (turn_told t s) ≡ s
unfolding state_for turn_told
state_for_lem (Continue on) s = refl
state_for_lem (Break x) s = refl

unfoldable answer_for : End Unit → Result Unit LoadError
answer_for (tells told) = ended (stop_for told)
answer_for out_of_steps = Err OutOfSteps

answer_for_lem : (a : Result Unit LoadError) → answer_for (answer_end a) ≡ a
unfolding stop_for answer_for answer_end
answer_for_lem (Ok done) = refl
answer_for_lem (Err (Stopped x)) = ap ended (stop_for_lem (Err x))
answer_for_lem (Err OutOfSteps) = refl

pub turn_unique : (r s : LoadTurned) (store₁ store₂ : List ℕ) (t : Turned Unit LoadState) → TurnMeets r store₁ t → TurnMeets s store₂ t → (r ≡ s) × (store₁ ≡ store₂)
turn_unique r s store₁ store₂ t p q =
    let told = p.tells ∙ sym q.tells in
    let a = load_state r.upload r.device store₁ in
    let b = load_state s.upload s.device store₂ in
    let turns : r.turn ≡ s.turn = sym (turn_for_lem r.turn a) ∙ ap turn_for told ∙ turn_for_lem s.turn b in
    let states : a ≡ b = sym (state_for_lem r.turn a) ∙ ap state_for told ∙ state_for_lem s.turn b in
    (ap₂ (λ (x : ControlFlow (Result Unit LoadStopError) Unit) (z : LoadState). record { turn = x; upload = z.upload; device = z.device }) turns states, ap (λ (z : LoadState). z.store) states)

pub run_unique : (r s : LoadRun) (store₁ store₂ : List ℕ) (run : Ran Unit LoadState) → RunMeets r store₁ run → RunMeets s store₂ run → (r ≡ s) × (store₁ ≡ store₂)
run_unique r s store₁ store₂ run p q =
    let answers : r.answer ≡ s.answer = sym (answer_for_lem r.answer) ∙ ap answer_for (p.tells ∙ sym q.tells) ∙ answer_for_lem s.answer in
    let a = load_state r.upload r.device store₁ in
    let states : a ≡ load_state s.upload s.device store₂ = p.leaves ∙ sym q.leaves in
    let first : ◌≡◌ {A = LoadRun} r (record { answer = s.answer; steps = s.steps; upload = r.upload; device = r.device }) =
    ap₂ (λ (x : Result Unit LoadError) (n : ℕ). record { answer = x; steps = n; upload = r.upload; device = r.device }) answers (p.steps ∙ sym q.steps) in
    (first ∙ ap (λ (z : LoadState). record { answer = s.answer; steps = s.steps; upload = z.upload; device = z.device }) states, ap (λ (z : LoadState). z.store) states)
