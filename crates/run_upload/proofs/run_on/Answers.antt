-- The loop keeps that the run from here is the rest of the run from the start (`On`), and the store's length.
use Rattle.std.proofs.Common.{◌≡◌, ℕ, ◌+◌, List, refl, ap, sym, subst, ◌∙◌, arith, rules, Ok, Err, Result}
use Rattle.std.specs.declared.ops.ControlFlow.{ControlFlow}
use Rattle.promise.specs.Run.{ends, goes, tells, out_of_steps, Ran, ran, runs}
use Rattle.promise.proofs.Loop.{begins, goes_on, stops, spent}
use Rattle.run_upload.specs.declared.LoadStopError.{LoadStopError}
use Rattle.run_upload.specs.Load.{LoadState, load_state, load_turn}
use Rattle.run_upload.specs.declared.LoadError.TheVariants.{OutOfSteps}
use Rattle.run_upload.specs.declared.LoadRun.{LoadRun}
use Rattle.run_upload.specs.Code.{run_by, ended}
use Rattle.run_upload.specs.Answers.{load_stop_told, turn_told, answer_end, RunMeets}
use Rattle.run_upload.proofs.run_on.Goals as goal

pub loop-used-init : goal.loop-used-init
loop-used-init c =
    let a = c.args in
    (begins (load_turn a.image.now) a.budget (load_state a.upload a.device a.store.now), refl)

pub loop-used-preserved : goal.loop-used-preserved
unfolding turn_told
loop-used-preserved c =
    let t = c.load_turn-turned in
    let l = c.loop-used in
    let a = c.args in
    let s' = load_state t.result.upload t.result.device t.new.store in
    let goes-here : load_turn a.image.now (load_state l.upload l.device l.store) ≡ goes s' =
    sym t.ensures.tells ∙ ap (λ (x : ControlFlow (Result Unit LoadStopError) Unit). turn_told x s') c.in_default.is in
    (goes_on (load_turn a.image.now) a.budget l.used (load_state l.upload l.device l.store) s' c.loop-used-test.true goes-here l.invariant.0, t.auto.store ∙ l.invariant.1)

-- an answer tells what the turn's stop does
ended_tells : (stop : Result Unit LoadStopError) → answer_end (ended stop) ≡ tells (load_stop_told stop)
unfolding answer_end load_stop_told
ended_tells (Ok done) = refl
ended_tells (Err error) = refl

-- a run, from what was made and what it comes to
came : (r made : LoadRun) (store : List ℕ) (run comes : Ran Unit LoadState) → r ≡ made → run ≡ comes → answer_end made.answer ≡ comes.end
    → made.steps ≡ comes.steps → load_state made.upload made.device store ≡ comes.state → RunMeets r store run
came r made store run comes e f tell steps leave =
    subst (λ (x : LoadRun). RunMeets x store run) (sym e)
    (subst (λ (w : Ran Unit LoadState). RunMeets made store w) (sym f) (record { tells = tell; steps = steps; leaves = leave }))

pub returns-in-Break : goal.returns-in-Break
unfolding turn_told
returns-in-Break c =
    let t = c.load_turn-turned in
    let l = c.loop-used in
    let a = c.args in
    let stop = c.in-Break.stop in
    let s' = load_state t.result.upload t.result.device t.new.store in
    let answer : c.map_err.result ≡ ended stop = search rules in
    let ends-here : load_turn a.image.now (load_state l.upload l.device l.store) ≡ ends (load_stop_told stop) s' =
    sym t.ensures.tells ∙ ap (λ (x : ControlFlow (Result Unit LoadStopError) Unit). turn_told x s') c.in-Break.is in
    came c.ran.result (run_by c.map_err.result (l.used + 1) t.result.upload t.result.device) t.new.store
    (runs (load_turn a.image.now) a.budget (load_state a.upload a.device a.store.now)) (ran (tells (load_stop_told stop)) (l.used + 1) s') c.ran.ensures
    (stops (load_turn a.image.now) a.budget l.used (load_state l.upload l.device l.store) s' (load_stop_told stop) c.loop-used-test.true ends-here l.invariant.0)
    (ap answer_end answer ∙ ended_tells stop) refl refl

pub returns : goal.returns
unfolding answer_end
returns c =
    let l = c.loop-used in
    let a = c.args in
    let all : l.used ≡ a.budget = omega (arith, l.invariant.0.within) in
    came c.ran-2.result (run_by (Err OutOfSteps) a.budget l.upload l.device) l.store
    (runs (load_turn a.image.now) a.budget (load_state a.upload a.device a.store.now)) (ran out_of_steps l.used (load_state l.upload l.device l.store)) c.ran-2.ensures
    (spent (load_turn a.image.now) a.budget l.used (load_state l.upload l.device l.store) all l.invariant.0) refl (sym all) refl
