-- What a run promises of itself makes its record the deal that is defined.
use Rattle.std.proofs.Common.{◌≡◌, ℕ, List, sym, refl, ap, ◌∙◌, arith}
use Rattle.std.specs.Prelude.{Result}
use Rattle.std.specs.declared.result.Result.TheVariants.{Ok, Err}
use Rattle.promise.specs.Told.{Told, given, refused, number}
use Rattle.protocol_bytes.specs.Signature.{no_signature}
use Rattle.operation_finish.specs.Reply.{Reply, reply_given, blank, beside_reply}
use Rattle.operation_finish.specs.declared.UsbReply.{UsbReply}
use Rattle.operation_finish.specs.declared.UsbReply.TheVariants as reply
use Rattle.operation_finish.specs.declared.Beside.{Beside}
use Rattle.promise.specs.Run.{End, tells, out_of_steps, end_told, Ran}
use Rattle.mock.specs.declared.device.MockState.{MockState}
use Rattle.run_turn.specs.Turn.{UsbState}
use Rattle.run_turn.specs.declared.StopError.TheVariants as stop
use Rattle.run_turn.specs.Answers.{stop_told, beside_told}
use Rattle.run_operation.specs.declared.RunError.{RunError}
use Rattle.run_operation.specs.declared.RunError.TheVariants as run_error
use Rattle.run_operation.specs.declared.UsbRun.{UsbRun}
use Rattle.run_operation.specs.Answers as run
use Rattle.run_upload.specs.declared.LoadStopError.TheVariants as load_stop
use Rattle.run_upload.specs.declared.LoadError.{LoadError}
use Rattle.run_upload.specs.declared.LoadError.TheVariants as load_error
use Rattle.run_upload.specs.declared.LoadRun.{LoadRun}
use Rattle.run_upload.specs.Load.{LoadState}
use Rattle.run_upload.specs.Answers as load
use Rattle.deck.specs.declared.verdict.RefusalNumber.{RefusalNumber}
use Rattle.deck.specs.declared.verdict.Dealt.{Dealt}
use Rattle.deck.specs.Verdict.{by_number, numbered, load_told, verdict_told, beside_dealt, kept}
use Rattle.deck.specs.Deal.{head, operated_by, loaded_by, away, turned_away, DealMeets, OperatedMeets, LoadedMeets}

-- a refusal of a run is told by its number alone
run_refused : (x : RunError) (b : Beside) → verdict_told (Err (record { 0 = run.run_error_number x })) b ≡ numbered (end_told (run.answer_end (Err x) b))
unfolding verdict_told numbered end_told run.answer_end stop_told
run_refused (run_error.Stopped (stop.Failed error)) b = refl
run_refused (run_error.Stopped (stop.Device error)) b = refl
run_refused (run_error.Stopped stop.OutputTooShort) b = refl
run_refused (run_error.Stopped stop.DataDiffers) b = refl
run_refused run_error.OutOfSteps b = refl

pub run_by_number : (a : Result UsbReply RunError) (b : Beside) → verdict_told (by_number run.run_error_number a) b ≡ numbered (end_told (run.answer_end a b))
unfolding verdict_told numbered end_told run.answer_end stop_told
run_by_number (Ok reply) b = refl
run_by_number (Err x) b = run_refused x b

-- and of an upload's
load_refused : (x : LoadError) (b : Beside) → verdict_told (Err (record { 0 = load.load_error_number x })) b ≡ load_told (end_told (load.answer_end (Err x)))
unfolding verdict_told load_told end_told load.answer_end load.load_stop_told
load_refused (load_error.Stopped (load_stop.Device error)) b = refl
load_refused (load_error.Stopped load_stop.OutputTooShort) b = refl
load_refused (load_error.Stopped load_stop.ImageDiffers) b = refl
load_refused load_error.OutOfSteps b = refl

pub load_by_number : (a : Result Unit LoadError) (e : RefusalNumber) (b : Beside) → by_number load.load_error_number a ≡ Err e
    → verdict_told (Err e) b ≡ load_told (end_told (load.answer_end a))
load_by_number (Ok done) e b is = absurd (cc is)
load_by_number (Err x) e b is =
    let same : ◌≡◌ {A = RefusalNumber} (record { 0 = load.load_error_number x }) e = cc is in
    ap (λ (r : RefusalNumber). verdict_told (Err r) b) (sym same) ∙ load_refused x b

pub load_finished : (a : Result Unit LoadError) (done : Unit) (b : Beside) → by_number load.load_error_number a ≡ Ok done
    → verdict_told (Ok reply.Nothing) b ≡ load_told (end_told (load.answer_end a))
unfolding verdict_told reply_given load_told end_told load.answer_end load.load_stop_told
load_finished (Ok done) _ b is = refl
load_finished (Err x) _ b is = absurd (cc is)

told_kept : (v : Result UsbReply RefusalNumber) (b : Beside) → verdict_told v (kept v b) ≡ verdict_told v b
unfolding verdict_told kept
told_kept (Ok reply) b = refl
told_kept (Err n) b = refl

-- a run's verdict with what is kept beside it
pub as_operated : (v : Result UsbReply RefusalNumber) (b : Beside) (ran : UsbRun) → verdict_told v ran.beside ≡ numbered (end_told (run.answer_end ran.answer ran.beside))
    → b ≡ kept v ran.beside → OperatedMeets (record { verdict = v; beside = b; device = ran.device }) ran
as_operated v b ran told e =
    record { tells = ap (verdict_told v) e ∙ told_kept v ran.beside ∙ told; beside = e; device = refl }

-- beside a reply stands what the run has beside it, beside a refusal nothing
beside_told_lem : (v : Result UsbReply RefusalNumber) (b : Beside) (told : Told Reply) → b ≡ beside_told told → verdict_told v b ≡ numbered told
    → kept v b ≡ beside_dealt (numbered told)
unfolding verdict_told numbered beside_dealt kept beside_told
beside_told_lem (Ok reply) b (given r) e h = e
beside_told_lem (Ok reply) b (refused n values) e h = let z : ◌≡◌ {A = ℕ} 0 1 = cc in absurd (omega arith)
beside_told_lem (Err n) b (given r) e h = let z : ◌≡◌ {A = ℕ} 0 1 = cc in absurd (omega arith)
beside_told_lem (Err n) b (refused m values) e h = refl

beside_end_lem : (v : Result UsbReply RefusalNumber) (b : Beside) (end : End Reply) → b ≡ run.beside_end end → verdict_told v b ≡ numbered (end_told end)
    → kept v b ≡ beside_dealt (numbered (end_told end))
unfolding verdict_told numbered beside_dealt kept end_told run.beside_end
beside_end_lem v b (tells told) e h = beside_told_lem v b told e h
beside_end_lem (Ok reply) b out_of_steps e h = let z : ◌≡◌ {A = ℕ} 0 1 = cc in absurd (omega arith)
beside_end_lem (Err n) b out_of_steps e h = refl

pub operated_deal : (r : Dealt) (ran : UsbRun) (flash bytes store : List ℕ) (whole : Ran Reply UsbState)
    → run.RunMeets ran flash bytes whole → OperatedMeets r ran → DealMeets r flash store (operated_by whole store)
operated_deal r ran flash bytes store whole p m =
    let told : verdict_told r.verdict r.beside ≡ numbered (end_told whole.end) =
    m.tells ∙ ap (λ (e : End Reply). numbered (end_told e)) p.tells in
    let own : verdict_told r.verdict ran.beside ≡ numbered (end_told whole.end) =
    sym (told_kept r.verdict ran.beside) ∙ ap (verdict_told r.verdict) (sym m.beside) ∙ told in
    record {
      tells = told;
      beside = m.beside ∙ beside_end_lem r.verdict ran.beside whole.end p.beside own;
      leaves = ap (λ (d : MockState). head d flash store) m.device ∙ ap (λ (s : UsbState). head s.device s.flash store) p.leaves;
    }

-- an upload's value has no bytes
load_beside : (told : Told Unit) → beside_dealt (load_told told) ≡ blank no_signature
unfolding load_told beside_dealt beside_reply
load_beside (given done) = refl
load_beside (refused n values) = refl

pub loaded_deal : (r : Dealt) (ran : LoadRun) (flash store : List ℕ) (whole : Ran Unit LoadState)
    → load.RunMeets ran store whole → LoadedMeets r ran → DealMeets r flash store (loaded_by whole flash)
loaded_deal r ran flash store whole p m =
    let told : verdict_told r.verdict r.beside ≡ load_told (end_told whole.end) =
    m.tells ∙ ap (λ (e : End Unit). load_told (end_told e)) p.tells in
    record {
      tells = told;
      beside = m.beside ∙ sym (load_beside (end_told whole.end));
      leaves = ap (λ (d : MockState). head d flash store) m.device ∙ ap (λ (s : LoadState). head s.device flash s.store) p.leaves;
    }

pub away_deal : (number : ℕ) (device : MockState) (flash store : List ℕ)
    → DealMeets (turned_away number device) flash store (away number (head device flash store))
unfolding verdict_told beside_dealt
away_deal number device flash store = record { tells = refl; beside = refl; leaves = refl }
