-- The whole upload that C and Rust link is a caller of a whole upload: whatever its budget and its output, what it shows is what he has seen.
use Prim.Native.Nat.{ℕ, zero, suc, ◌<◌, ◌≤◌}
use mathlib.Core.Path.{◌≡◌, refl, ap, sym, ◌∙◌, subst}
use mathlib.Core.List.{List, [], ◌∷◌, ◌++◌, append-nil, append_assoc}
use native.Mathlib.Omega.{arith}
use native.Mathlib.Decide.{dec_lt, ℕ_discrete}
use lib.ListN.{length, take, drop}
use borrow.Author.Tests.{lt-ltb}
use Rattle.crc.specs.Check.{crc_over}
use Rattle.promise.specs.Told.{Told, given, refused, number}
use Rattle.promise.specs.Rules.{or_refuse}
use Rattle.promise.specs.Bytes.{front}
use Rattle.promise.specs.Does.{Does, does, said, sent, after}
use Rattle.promise.specs.Run.{end_told, follow, runs}
use Rattle.maskrom_transfer.specs.Moves.{moves_at}
use Rattle.maskrom.specs.declared.UploadStep.TheVariants as upload
use Rattle.maskrom.specs.declared.WholeUpload.{WholeUpload}
use Rattle.maskrom.specs.declared.WholeStart.{WholeStart}
use Rattle.maskrom.specs.Answers.{longest, too_long, Asks, writes, finish, step_told, start_told}
use Rattle.maskrom.specs.Code.{stepped_with}
use Rattle.maskrom.specs.Whole.{fresh_whole, start_step, StartMeets, most, whole_step}
use Rattle.maskrom.proofs.Cases.{whole_20, whole_27}
use Rattle.ffi.specs.Drive.{stepping, onward, step_turn, step_drive, step_of, on_start, whole_drive}
use Rattle.theorems.specs.PartDriver.{Transfer, seen}
use Rattle.maskrom.specs.Calls.{StepMeets}
use Rattle.theorems.specs.AnyCaller.{asked_seen, Stepped, begun, WholeFinishes, whole_finishes}
use Rattle.theorems.specs.AnyCaller as caller
use Rattle.theorems.specs.DriveTrace.{step_shows, step_turn_shows, on_turn, run_shows, step_trace, on_start_trace, whole_trace}
use Rattle.theorems.proofs.WholeSends.{whole_goes}
use Rattle.theorems.proofs.AnyCut.{started}
use Rattle.theorems.proofs.CallsAnswered.{asked_told}
use Rattle.theorems.proofs.PartsOfOneSize.{step_number}
use Rattle.std.specs.Prelude.{Result}
use Rattle.maskrom.specs.declared.UploadStep.{UploadStep}
use Rattle.maskrom.specs.declared.UploadError.{UploadError}
use Rattle.std.specs.declared.result.Result.TheVariants.{Ok, Err}
use Rattle.maskrom.specs.declared.UploadError.TheVariants as upload_error

-- a call of `step` on a whole upload has an answer, at every record
pub whole_told : (u : WholeUpload) (image : List ℕ) (room : ℕ) → Dec (room < 4096) → Dec (length image ≡ u.length)
    → (s : Result UploadStep UploadError) × (step_told s ≡ said (whole_step u image room))
unfolding said step_told
whole_told u image room (yes h) d = ((Err upload_error.OutputTooShort), sym (ap said (whole_20 u image room h)))
whole_told u image room (no h) (no e) =
    let long : 4096 ≤ room = omega arith in
    ((Err upload_error.ImageDiffers), sym (ap said (whole_27 u image room long e)))
whole_told u image room (no h) (yes e) =
    let long : 4096 ≤ room = omega arith in
    let w = take (most u.steps) (drop u.taken image) in
    let c = crc_over u.crc w in
    let to = moves_at u.steps c w in
    let x = asked_told u.steps u.area (length to.bytes) in
    (x.0, x.1 ∙ sym (ap said (whole_goes image u u.steps w c to e refl refl refl refl room long)))

too_long_not_0 : (area : ℕ) (image out : List ℕ) (budget : ℕ) → longest < length image → (whole_drive area image out budget).number ≡ 0 → ⊥
unfolding on_start start_step or_refuse
too_long_not_0 area image out budget h e =
    let n : ◌≡◌ {A = ℕ} too_long 0 = rw (lt-ltb longest (length image) h) at e in
    omega arith

module _ (area : ℕ) (image : List ℕ) where
  -- one step, by what it asks for, given what comes of those after it
  module _ (k : ℕ) (more : (u : WholeUpload) (out : List ℕ) (ts : List Transfer) → Stepped area image u ts → (step_drive (step_of image) k u out).number ≡ 0
      → WholeFinishes area image (ts ++ step_trace (step_of image) k u out))
      (u : WholeUpload) (out : List ℕ) (ts : List Transfer) (d : Stepped area image u ts) where
    abbrev Ends : Told Asks → WholeUpload → List ℕ → Type 0
    Ends told next now =
        number (end_told (follow (onward told (stepping next now)) (λ s. runs (step_turn (step_of image)) k s)).end) ≡ 0
        → WholeFinishes area image
        (ts ++ (step_shows told now ++ on_turn (onward told (stepping next now)) (λ s. run_shows (step_turn (step_of image)) (step_turn_shows (step_of image)) k s)))

    by_asked : (a : Asks) (bs : List ℕ) (next : WholeUpload) → whole_step u image (length out) ≡ given (does a bs next) → Ends (given a) next (front bs out)
    unfolding onward step_shows asked_seen follow on_turn said sent after step_told step_drive step_trace
    by_asked (writes c) bs next e f =
        let now = front bs out in
        let r = stepped_with (Ok (upload.WriteControl c)) next in
        let meets : StepMeets r u image out now = record { tells = sym (ap said e); next = sym (ap (after u) e); leaves = sym (ap (λ (t : Told (Does Asks WholeUpload)). front (sent t) out) e) } in
        subst (WholeFinishes area image) (append_assoc ts (seen c now ∷ []) (step_trace (step_of image) k next now))
        (more next now (ts ++ (seen c now ∷ [])) (caller.stepping u ts out now r (writes c) d meets refl) f)
    by_asked finish bs next e f =
        let now = front bs out in
        let r = stepped_with (Ok upload.Finished) next in
        let meets : StepMeets r u image out now = record { tells = sym (ap said e); next = sym (ap (after u) e); leaves = sym (ap (λ (t : Told (Does Asks WholeUpload)). front (sent t) out) e) } in
        subst (WholeFinishes area image) (sym (append-nil ts)) (whole_finishes u ts out now r d meets refl)

    by_step : (t : Told (Does Asks WholeUpload)) → whole_step u image (length out) ≡ t → Ends (said t) (after u t) (front (sent t) out)
    unfolding onward follow said sent after number end_told
    by_step (given x) e f = by_asked x.says x.sends x.becomes e f
    by_step (refused n vs) e f =
        let told = whole_told u image (length out) (dec_lt (length out) 4096) (ℕ_discrete (length image) u.length) in
        let some : 0 < n = step_number told.0 n vs (told.1 ∙ ap said e) in
        absurd (omega arith)

  steps_call : (k : ℕ) (u : WholeUpload) (out : List ℕ) (ts : List Transfer) → Stepped area image u ts → (step_drive (step_of image) k u out).number ≡ 0
      → WholeFinishes area image (ts ++ step_trace (step_of image) k u out)
  unfolding step_drive step_trace runs run_shows step_turn step_turn_shows number end_told
  steps_call zero u out ts d e = absurd (omega arith)
  steps_call (suc k) u out ts d e = by_step k (λ u' out' ts'. steps_call k u' out' ts') u out ts d (whole_step u image (length out)) refl e

  by_length : (out : List ℕ) (budget : ℕ) → Dec (longest < length image) → (whole_drive area image out budget).number ≡ 0
      → WholeFinishes area image (whole_trace area image out budget)
  unfolding on_start on_start_trace said after start_told
  by_length out budget (yes h) e = absurd (too_long_not_0 area image out budget h e)
  by_length out budget (no h) e =
      let l : length image ≤ longest = omega arith in
      let s = started area image l in
      let u = fresh_whole area (length image) in
      let r : WholeStart = record { start = (Ok tt); upload = u } in
      let meets : StartMeets r area image = record { tells = sym (ap said s); next = sym (ap (after (fresh_whole area 0)) s) } in
      let e' : (step_drive (step_of image) budget u out).number ≡ 0 = rw s at e in
      subst (WholeFinishes area image) (ap (λ (t : Told (Does Unit WholeUpload)). on_start_trace t image out budget) (sym s))
      (steps_call budget u out [] (begun r meets refl) e')

  -- every drive that answers 0
  pub whole_is_a_caller : (out : List ℕ) (budget : ℕ) → (whole_drive area image out budget).number ≡ 0
      → WholeFinishes area image (whole_trace area image out budget)
  whole_is_a_caller out budget e = by_length out budget (dec_lt longest (length image)) e
