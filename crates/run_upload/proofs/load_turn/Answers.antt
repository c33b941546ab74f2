-- What the step tells decides the turn; the bytes that it asks for are those that it put at the front of the block.
use Prim.Native.Nat.{ℕ}
use Rattle.std.proofs.Common.{rules}
use mathlib.Core.Path.{◌≡◌, refl, ap, ap₂, sym, ◌∙◌}
use mathlib.Core.List.{List, []}
use native.Mathlib.Omega.{arith}
use lib.ListN.{take, replicate, length-replicate}
use Rattle.promise.specs.Told.{given, refused}
use Rattle.promise.specs.Bytes.{front}
use Rattle.promise.specs.Does.{said, sent}
use Rattle.maskrom.specs.declared.Control.{Control}
use Rattle.maskrom.specs.declared.WholeUpload.{WholeUpload}
use Rattle.maskrom.specs.declared.UploadStep.TheVariants.{WriteControl, Finished}
use Rattle.maskrom.specs.Answers.{writes, step_told, upload_error_number}
use Rattle.maskrom.specs.Whole.{whole_step}
use Rattle.mock.specs.Device.{write_control}
use Rattle.promise.specs.Run.{ends}
use Rattle.std.specs.declared.ops.ControlFlow.TheVariants.{Break}
use Rattle.run_upload.specs.declared.LoadStopError.{LoadStopError}
use Rattle.run_upload.specs.declared.LoadTurned.{LoadTurned}
use Rattle.run_upload.specs.Load.{LoadState, load_state, carried, load_turn}
use Rattle.run_upload.specs.Answers.{stop_by_step, load_stop_told, turn_told}
use Rattle.maskrom.proofs.Writes.{front_seen, whole_writes}
use Rattle.run_upload.proofs.Sized.{whole_sized}
use Rattle.run_upload.proofs.Cases.{turn_carries, turn_finishes, turn_refuses}
use Rattle.run_upload.proofs.load_turn.Goals as goal
use Rattle.std.specs.Prelude.{Result}
use Rattle.maskrom.specs.declared.UploadStep.{UploadStep}
use Rattle.maskrom.specs.declared.UploadError.{UploadError}
use Rattle.std.specs.declared.result.Result.TheVariants.{Ok, Err}
use Rattle.maskrom.specs.declared.UploadError.TheVariants as upload_error

-- the block as it is lent to the step
abbrev blank : List ℕ
blank = replicate 4096 0

-- the step asks for this transfer
asks_it : (upload : WholeUpload) (image : List ℕ) (answer : Result UploadStep UploadError) (asked : Control) → step_told answer ≡ said (whole_step upload image 4096)
    → answer ≡ Ok (WriteControl asked) → said (whole_step upload image 4096) ≡ given (writes asked)
unfolding step_told
asks_it upload image answer asked tells e = sym tells ∙ ap step_told e

pub carry-requires : goal.carry-requires
carry-requires c =
    let a = c.args in
    let st = c.step-stepped in
    let k = c.in-Ok-WriteControl.c in
    let asked : st.result.step ≡ Ok (WriteControl k) = search rules in
    let asks = asks_it a.upload a.image.now st.result.step k st.ensures.tells asked in
    omega (arith, whole_sized a.upload a.image.now 4096 k asks, whole_writes a.upload a.image.now 4096, st.auto.out, length-replicate {A = ℕ} 4096 0)

pub returns-in-Ok-WriteControl : goal.returns-in-Ok-WriteControl
returns-in-Ok-WriteControl c =
    let a = c.args in
    let image = a.image.now in
    let st = c.step-stepped in
    let step = whole_step a.upload image 4096 in
    let k = c.in-Ok-WriteControl.c in
    let asked : st.result.step ≡ Ok (WriteControl k) = search rules in
    let asks = asks_it a.upload image st.result.step k st.ensures.tells asked in
    let s = load_state a.upload a.device a.store.now in
    let block = st.new.out in
    let bytes : take k.size block ≡ sent step =
    ap (take k.size) st.ensures.leaves
    ∙ ap (λ (n : ℕ). take n (front (sent step) blank)) (whole_sized a.upload image 4096 k asks)
    ∙ front_seen (sent step) blank in
    let same : carried st.result.next (write_control a.device k.request_type k.request k.value k.index (take k.size block) a.store.now)
    ≡ load_turn image s =
    ap₂ (λ (u : WholeUpload) (l : List ℕ). carried u (write_control a.device k.request_type k.request k.value k.index l a.store.now)) st.ensures.next bytes
    ∙ sym (turn_carries image s k asks) in
    record { tells = c.carry.ensures.tells ∙ same }

pub returns-in-Ok-Finished : goal.returns-in-Ok-Finished
unfolding step_told turn_told load_stop_told
returns-in-Ok-Finished c =
    let a = c.args in
    let st = c.step-stepped in
    let s = load_state a.upload a.device a.store.now in
    let done : st.result.step ≡ Ok Finished = search rules in
    let told = sym st.ensures.tells ∙ ap step_told done in
    record {
      tells = ap (λ (r : LoadTurned). turn_told r.turn (load_state r.upload r.device a.store.now)) c.turned.ensures
          ∙ ap (λ (u : WholeUpload). ends (given tt) (load_state u a.device a.store.now)) st.ensures.next
          ∙ sym (turn_finishes a.image.now s told);
    }

-- a step's refusal, as a run's
stop_by : (error : UploadError) (s : LoadState) → turn_told (Break (Err (stop_by_step error))) s ≡ ends (refused (upload_error_number error) []) s
unfolding turn_told load_stop_told
stop_by upload_error.OutputTooShort s = refl
stop_by upload_error.ImageDiffers s = refl

told_by : (error : UploadError) → step_told (Err error) ≡ refused (upload_error_number error) []
unfolding step_told
told_by upload_error.OutputTooShort = refl
told_by upload_error.ImageDiffers = refl

pub returns-in-Err : goal.returns-in-Err
returns-in-Err c =
    let a = c.args in
    let st = c.step-stepped in
    let s = load_state a.upload a.device a.store.now in
    let e = c.in-Err.error in
    let told = sym st.ensures.tells ∙ ap step_told c.in-Err.is ∙ told_by e in
    record {
      tells = ap (λ (r : LoadTurned). turn_told r.turn (load_state r.upload r.device a.store.now)) c.turned-in-Err.ensures
          ∙ ap (λ (x : LoadStopError). turn_told (Break (Err x)) (load_state st.result.next a.device a.store.now)) c.into.ensures
          ∙ stop_by e (load_state st.result.next a.device a.store.now)
          ∙ ap (λ (u : WholeUpload). ends (refused (upload_error_number e) []) (load_state u a.device a.store.now)) st.ensures.next
          ∙ sym (turn_refuses a.image.now s (upload_error_number e) [] told);
    }
