-- What the loop over turns keeps, and how it is left.
use Prim.Native.Nat.{ℕ, ◌+◌, ◌<◌}
use mathlib.Core.Path.{◌≡◌, refl, ap, sym, subst, ◌∙◌}
use mathlib.Core.List.{List}
use Rattle.protocol_bytes.specs.Signature.{no_signature}
use Rattle.operation_finish.specs.Reply.{Reply, blank}
use Rattle.operation_finish.specs.declared.Beside.{Beside}
use Rattle.operation_finish.specs.declared.Kind.{Kind}
use Rattle.operation.specs.declared.steps.UsbOperation.{UsbOperation}
use Rattle.mock.specs.declared.device.MockState.{MockState}
use Rattle.promise.specs.Run.{Turned, ends, goes, tells, Ran, runs}
use Rattle.promise.proofs.Loop.{On, begins, goes_on, stops, spent}
use Rattle.run_turn.specs.declared.UsbTurned.{UsbTurned}
use Rattle.run_turn.specs.Turn.{UsbState, usb_state, lent_to, usb_turn}
use Rattle.run_turn.specs.Answers.{stop_told, turn_told, beside_turned, TurnMeets}
use Rattle.run_turn.proofs.Kept.{OfKind, kind_kept}
use Rattle.run_operation.specs.declared.UsbRun.{UsbRun}
use Rattle.run_operation.specs.Code.{run_ended}
use Rattle.run_operation.specs.Answers.{answer_end, beside_end, RunMeets}
use Rattle.std.specs.Prelude.{Result}
use Rattle.operation_finish.specs.declared.UsbReply.{UsbReply}
use Rattle.run_turn.specs.declared.StopError.{StopError}
use Rattle.std.specs.declared.ops.ControlFlow.{ControlFlow}
use Rattle.std.specs.declared.ops.ControlFlow.TheVariants.{Continue, Break}
use Rattle.run_operation.specs.declared.RunError.{RunError}
use Rattle.std.specs.declared.result.Result.TheVariants.{Ok, Err}
use Rattle.run_operation.specs.declared.RunError.TheVariants as run_error

-- an operation with what it is lent
abbrev pub held : UsbOperation → MockState → List ℕ → List ℕ → List ℕ → UsbState
held op device flash source room = usb_state op device flash (lent_to op.kind source room)

abbrev pub made_of : Result UsbReply RunError → Beside → UsbOperation → MockState → ℕ → UsbRun
made_of a b op device steps = record { answer = a; beside = b; operation = op; device = device; steps = steps }

-- what a run that stops tells
ended_tells : (stop : Result UsbReply StopError) (b : Beside) → answer_end (run_ended stop) b ≡ tells (stop_told stop b)
unfolding answer_end
ended_tells (Ok reply) b = refl
ended_tells (Err stop) b = refl

-- the run of the start is the run from here, after so many steps
pub record Going (start : UsbState) (source : List ℕ) (budget : ℕ) (flash room : List ℕ) (op : UsbOperation) (device : MockState) (beside : Beside) (steps : ℕ) : Type 0 where
  pub on : On usb_turn budget steps (runs usb_turn budget start) (held op device flash source room)
  pub kind : op.kind ≡ start.operation.kind
  pub empty : beside ≡ blank no_signature

pub going_begins : (op : UsbOperation) (device : MockState) (flash source room : List ℕ) (budget : ℕ) (beside : Beside) → beside ≡ blank no_signature
    → Going (held op device flash source room) source budget flash room op device beside 0
going_begins op device flash source room budget beside b =
    record { on = begins usb_turn budget (held op device flash source room); kind = refl; empty = b }

module _ (start : UsbState) (source : List ℕ) (budget : ℕ) (flash room : List ℕ) (op : UsbOperation) (device : MockState) (beside : Beside) (steps : ℕ)
    (g : Going start source budget flash room op device beside steps) where
  pub going_spent : steps ≡ budget → RunMeets (made_of (Err run_error.OutOfSteps) beside op device steps) flash (lent_to start.operation.kind source room) (runs usb_turn budget start)
  unfolding answer_end beside_end
  going_spent e =
      subst (λ (r : Ran Reply UsbState). RunMeets (made_of (Err run_error.OutOfSteps) beside op device steps) flash (lent_to start.operation.kind source room) r)
      (sym (spent usb_turn budget steps (held op device flash source room) e g.on))
      (record { tells = refl; beside = g.empty; steps = refl; leaves = ap (λ (k : Kind). usb_state op device flash (lent_to k source room)) (sym g.kind) })

  module _ (h : steps < budget) (r : UsbTurned) (flash' room' : List ℕ)
      (m : TurnMeets r flash' (lent_to op.kind source room') (usb_turn (held op device flash source room))) where
    pub going_on : r.turn ≡ (Continue tt) → Going start source budget flash' room' r.operation r.device r.beside (steps + 1)
    unfolding turn_told beside_turned
    going_on e =
        let next = usb_state r.operation r.device flash' (lent_to op.kind source room') in
        let t : usb_turn (held op device flash source room) ≡ goes next = sym m.tells ∙ ap (λ (x : ControlFlow (Result UsbReply StopError) Unit). turn_told x r.beside next) e in
        let same : r.operation.kind ≡ op.kind = subst (λ (u : Turned Reply UsbState). OfKind op.kind u) t (kind_kept (held op device flash source room)) in
        record {
          on = subst (λ (k : Kind). On usb_turn budget (steps + 1) (runs usb_turn budget start) (usb_state r.operation r.device flash' (lent_to k source room'))) (sym same)
              (goes_on usb_turn budget steps (held op device flash source room) next h t g.on);
          kind = same ∙ g.kind;
          empty = m.beside ∙ ap beside_turned t;
        }

    pub going_ends : (stop : Result UsbReply StopError) → r.turn ≡ Break stop
        → RunMeets (made_of (run_ended stop) r.beside r.operation r.device (steps + 1)) flash' (lent_to start.operation.kind source room') (runs usb_turn budget start)
    unfolding turn_told beside_turned beside_end
    going_ends stop e =
        let next = usb_state r.operation r.device flash' (lent_to op.kind source room') in
        let t : usb_turn (held op device flash source room) ≡ ends (stop_told stop r.beside) next = sym m.tells ∙ ap (λ (x : ControlFlow (Result UsbReply StopError) Unit). turn_told x r.beside next) e in
        subst (λ (w : Ran Reply UsbState). RunMeets (made_of (run_ended stop) r.beside r.operation r.device (steps + 1)) flash' (lent_to start.operation.kind source room') w)
        (sym (stops usb_turn budget steps (held op device flash source room) next (stop_told stop r.beside) h t g.on))
        (record {
          tells = ended_tells stop r.beside;
          beside = m.beside ∙ ap beside_turned t;
          steps = refl;
          leaves = ap (λ (k : Kind). usb_state r.operation r.device flash' (lent_to k source room')) (sym g.kind);
        })
