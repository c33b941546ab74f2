-- The upload by parts that C and Rust link is one of those callers: whatever its size, its budget and its output, what it shows is what he has seen.
use Prim.Native.Nat.{ℕ, zero, suc, ◌<◌}
use mathlib.Core.Path.{◌≡◌, refl, ap, sym, ◌∙◌, subst}
use mathlib.Core.List.{List, [], ◌∷◌, ◌++◌, append-nil, append_assoc}
use native.Mathlib.Omega.{arith}
use lib.ListN.{length, take, drop, take-append-drop}
use lib.Dec.{eqb}
use native.Mathlib.Decide.{dec_lt}
use borrow.Author.Tests.{eqb-true}
use Rattle.promise.specs.Told.{Told, given, refused, number}
use Rattle.promise.specs.Bytes.{front}
use Rattle.promise.specs.Does.{Does, does, said, sent, after}
use Rattle.promise.specs.Run.{end_told, Ran, follow, runs}
use Rattle.promise.proofs.Outcome.{on_test}
use Rattle.maskrom.specs.declared.MaskRomOperation.{MaskRomOperation}
use Rattle.maskrom.specs.declared.PartStep.TheVariants as part
use Rattle.maskrom.specs.declared.UploadStep.TheVariants as upload
use Rattle.maskrom.specs.Answers.{Handed, took, filled, Asks, writes, finish, part_told, step_told}
use Rattle.maskrom.specs.PartWise.{fresh, part_step, close_step}
use Rattle.maskrom.specs.Code.{parted, closed_with}
use Rattle.ffi.specs.Drive.{stepping, onward, step_turn, step_drive, Handing, handing, on_part, part_turn, most_closing, on_handed, part_drive}
use Rattle.theorems.specs.PartDriver.{Transfer, seen}
use Rattle.maskrom.specs.Calls.{PartMeets, CloseMeets}
use Rattle.theorems.specs.AnyCaller.{taken_by, handed_seen, asked_seen, Reached, starts, hands, closes, Finishes, finishes}
use Rattle.theorems.specs.DriveTrace.{part_shows, step_shows, part_turn_shows, step_turn_shows, on_turn, run_shows, step_trace, on_handed_trace, part_trace}
use Rattle.theorems.proofs.CallsAnswered.{part_told_lem, close_told}
use Rattle.std.specs.Prelude.{Result}
use Rattle.maskrom.specs.declared.PartStep.{PartStep}
use Rattle.maskrom.specs.declared.PartError.{PartError}
use Rattle.std.specs.declared.result.Result.TheVariants.{Ok, Err}
use Rattle.maskrom.specs.declared.PartError.TheVariants as part_error
use Rattle.maskrom.specs.declared.UploadStep.{UploadStep}
use Rattle.maskrom.specs.declared.UploadError.{UploadError}
use Rattle.maskrom.specs.declared.UploadError.TheVariants as upload_error

nothing_long : (l : List ℕ) → length l ≡ 0 → l ≡ []
nothing_long [] e = refl
nothing_long (x ∷ l) e = absurd (omega arith)

-- no refusal has the number 0
part_number : (s : Result PartStep PartError) (n : ℕ) (vs : List ℕ) → part_told s ≡ refused n vs → 0 < n
unfolding part_told
part_number (Ok (part.Taken k)) n vs e = absurd (let z : ◌≡◌ {A = ℕ} 0 1 = cc in omega arith)
part_number (Ok (part.WriteControl k c)) n vs e = absurd (let z : ◌≡◌ {A = ℕ} 0 1 = cc in omega arith)
part_number (Err part_error.OutputTooShort) n vs e = let z : 20 ≡ n = cc in omega arith
part_number (Err part_error.AlreadyClosed) n vs e = let z : 26 ≡ n = cc in omega arith
part_number (Err part_error.ImageTooLong) n vs e = let z : 25 ≡ n = cc in omega arith

pub step_number : (s : Result UploadStep UploadError) (n : ℕ) (vs : List ℕ) → step_told s ≡ refused n vs → 0 < n
unfolding step_told
step_number (Ok (upload.WriteControl c)) n vs e = absurd (let z : ◌≡◌ {A = ℕ} 0 1 = cc in omega arith)
step_number (Ok upload.Finished) n vs e = absurd (let z : ◌≡◌ {A = ℕ} 0 1 = cc in omega arith)
step_number (Err upload_error.OutputTooShort) n vs e = let z : 20 ≡ n = cc in omega arith
step_number (Err upload_error.ImageDiffers) n vs e = let z : 27 ≡ n = cc in omega arith

module _ (area : ℕ) (image : List ℕ) (size : ℕ) where
  -- where a run that began with `ts` seen, and shows `shown`, stands in the end: told 0 only once nothing is left
  record Stands (ts shown : List Transfer) (r : Ran Unit Handing) : Type 0 where
    reached : Reached area image r.state.operation r.state.left (ts ++ shown)
    all_handed : number (end_told r.end) ≡ 0 → r.state.left ≡ []

  abbrev shown_by : ℕ → Handing → List Transfer
  shown_by budget s = run_shows (part_turn size) (part_turn_shows size) budget s

  abbrev run_by : ℕ → Handing → Ran Unit Handing
  run_by budget s = runs (part_turn size) budget s

  -- one turn, given what comes of those after it
  module _ (budget : ℕ)
      (more : (s : Handing) (ts : List Transfer) → Reached area image s.operation s.left ts → Stands ts (shown_by budget s) (run_by budget s))
      (m : MaskRomOperation) (left out : List ℕ) (ts : List Transfer) (d : Reached area image m left ts) where
    by_handed : (a : Handed) (bs : List ℕ) (next : MaskRomOperation) → part_step m (take size left) (length out) ≡ given (does a bs next)
        → Stands ts (part_shows (given a) (front bs out) ++ on_turn (on_part (given a) next left (front bs out)) (shown_by budget))
        (follow (on_part (given a) next left (front bs out)) (run_by budget))
    unfolding on_part part_shows handed_seen taken_by follow on_turn said sent after part_told
    by_handed (took n) bs next e =
        let now = front bs out in
        let meets : PartMeets (parted (Ok (part.Taken n)) next) m (take size left) out now = record { tells = sym (ap said e); next = sym (ap (after m) e); leaves = sym (ap (λ (t : Told (Does Handed MaskRomOperation)). front (sent t) out) e) } in
        let here = hands m left ts (take size left) (drop size left) out now (parted (Ok (part.Taken n)) next) (took n) d (sym (take-append-drop size left)) meets refl in
        let s = more (handing next (drop n left) now) ts (subst (λ (l : List Transfer). Reached area image next (drop n left) l) (append-nil ts) here) in
        record { reached = s.reached; all_handed = s.all_handed }
    by_handed (filled n c) bs next e =
        let now = front bs out in
        let meets : PartMeets (parted (Ok (part.WriteControl n c)) next) m (take size left) out now = record { tells = sym (ap said e); next = sym (ap (after m) e); leaves = sym (ap (λ (t : Told (Does Handed MaskRomOperation)). front (sent t) out) e) } in
        let here = hands m left ts (take size left) (drop size left) out now (parted (Ok (part.WriteControl n c)) next) (filled n c) d (sym (take-append-drop size left)) meets refl in
        let s' = handing next (drop n left) now in
        let s = more s' (ts ++ (seen c now ∷ [])) here in
        record {
          reached =
              subst (Reached area image (run_by budget s').state.operation (run_by budget s').state.left)
              (append_assoc ts (seen c now ∷ []) (shown_by budget s')) s.reached;
          all_handed = s.all_handed;
        }

    by_part : (t : Told (Does Handed MaskRomOperation)) → part_step m (take size left) (length out) ≡ t
        → Stands ts (part_shows (said t) (front (sent t) out) ++ on_turn (on_part (said t) (after m t) left (front (sent t) out)) (shown_by budget))
        (follow (on_part (said t) (after m t) left (front (sent t) out)) (run_by budget))
    unfolding on_part part_shows follow on_turn said sent after number end_told
    by_part (given x) e = by_handed x.says x.sends x.becomes e
    by_part (refused n vs) e =
        let told = part_told_lem m (take size left) (length out) in
        let some : 0 < n = part_number told.0 n vs (told.1 ∙ ap said e) in
        record { reached = subst (Reached area image m left) (sym (append-nil ts)) d; all_handed = λ z. absurd (omega arith) }

    one_turn : Stands ts (shown_by (suc budget) (handing m left out)) (run_by (suc budget) (handing m left out))
    unfolding runs run_shows part_turn part_turn_shows follow on_turn
    one_turn =
        on_test (eqb (length left) 0)
        (λ e. rw e (record { reached = subst (Reached area image m left) (sym (append-nil ts)) d; all_handed = λ z. nothing_long left (eqb-true (length left) 0 e) }))
        (λ e. rw e (by_part (part_step m (take size left) (length out)) refl))

  turns_call : (budget : ℕ) (s : Handing) (ts : List Transfer) → Reached area image s.operation s.left ts → Stands ts (shown_by budget s) (run_by budget s)
  unfolding runs run_shows number end_told
  turns_call zero s ts d =
      record { reached = subst (Reached area image s.operation s.left) (sym (append-nil ts)) d; all_handed = λ z. absurd (omega arith) }
  turns_call (suc budget) s ts d = one_turn budget (λ s' ts'. turns_call budget s' ts') s.operation s.left s.out ts d

module _ (area : ℕ) (image : List ℕ) where
  -- one closing step, by what it asks for, given what comes of those after it
  module _ (k : ℕ) (more : (m : MaskRomOperation) (out : List ℕ) (ts : List Transfer) → Reached area image m [] ts → (step_drive close_step k m out).number ≡ 0
      → Finishes area image (ts ++ step_trace close_step k m out))
      (m : MaskRomOperation) (out : List ℕ) (ts : List Transfer) (d : Reached area image m [] ts) where
    abbrev Ends : Told Asks → MaskRomOperation → List ℕ → Type 0
    Ends told next now =
        number (end_told (follow (onward told (stepping next now)) (λ s. runs (step_turn close_step) k s)).end) ≡ 0
        → Finishes area image
        (ts ++ (step_shows told now ++ on_turn (onward told (stepping next now)) (λ s. run_shows (step_turn close_step) (step_turn_shows close_step) k s)))

    by_asked : (a : Asks) (bs : List ℕ) (next : MaskRomOperation) → close_step m (length out) ≡ given (does a bs next) → Ends (given a) next (front bs out)
    unfolding onward step_shows asked_seen follow on_turn said sent after step_told step_drive step_trace
    by_asked (writes c) bs next e f =
        let now = front bs out in
        let r = closed_with (Ok (upload.WriteControl c)) next in
        let meets : CloseMeets r m out now = record { tells = sym (ap said e); next = sym (ap (after m) e); leaves = sym (ap (λ (t : Told (Does Asks MaskRomOperation)). front (sent t) out) e) } in
        subst (Finishes area image) (append_assoc ts (seen c now ∷ []) (step_trace close_step k next now))
        (more next now (ts ++ (seen c now ∷ [])) (closes m [] ts out now r (writes c) d refl meets refl) f)
    by_asked finish bs next e f =
        let now = front bs out in
        let r = closed_with (Ok upload.Finished) next in
        let meets : CloseMeets r m out now = record { tells = sym (ap said e); next = sym (ap (after m) e); leaves = sym (ap (λ (t : Told (Does Asks MaskRomOperation)). front (sent t) out) e) } in
        subst (Finishes area image) (sym (append-nil ts)) (finishes m [] ts out now r d meets refl)

    by_close : (t : Told (Does Asks MaskRomOperation)) → close_step m (length out) ≡ t → Ends (said t) (after m t) (front (sent t) out)
    unfolding onward follow said sent after number end_told
    by_close (given x) e f = by_asked x.says x.sends x.becomes e f
    by_close (refused n vs) e f =
        let told = close_told m (length out) (dec_lt (length out) 4096) in
        let some : 0 < n = step_number told.0 n vs (told.1 ∙ ap said e) in
        absurd (omega arith)

  closings_call : (k : ℕ) (m : MaskRomOperation) (out : List ℕ) (ts : List Transfer) → Reached area image m [] ts → (step_drive close_step k m out).number ≡ 0
      → Finishes area image (ts ++ step_trace close_step k m out)
  unfolding step_drive step_trace runs run_shows step_turn step_turn_shows number end_told
  closings_call zero m out ts d e = absurd (omega arith)
  closings_call (suc k) m out ts d e = by_close k (λ m' out' ts'. closings_call k m' out' ts') m out ts d (close_step m (length out)) refl e

  -- the rest of the drive, by the number that the handing over ended with
  by_number : (n : ℕ) (m : MaskRomOperation) (left out : List ℕ) (ts : List Transfer) → Reached area image m left ts → (n ≡ 0 → left ≡ [])
      → (on_handed n m out).number ≡ 0 → Finishes area image (ts ++ on_handed_trace n m out)
  unfolding on_handed on_handed_trace
  by_number zero m left out ts d all e =
      closings_call most_closing m out ts (subst (λ (l : List ℕ). Reached area image m l ts) (all refl) d) e
  by_number (suc n) m left out ts d all e = absurd (omega arith)

  -- every drive that answers 0
  pub parts_is_a_caller : (size : ℕ) (out : List ℕ) (budget : ℕ) → (part_drive area size image out budget).number ≡ 0
      → Finishes area image (part_trace area size image out budget)
  unfolding part_drive part_trace
  parts_is_a_caller size out budget e =
      let s = handing (fresh area) image out in
      let run = runs (part_turn size) budget s in
      let stands = turns_call area image size budget s [] (starts (fresh area) refl) in
      by_number (number (end_told run.end)) run.state.operation run.state.left run.state.out (run_shows (part_turn size) (part_turn_shows size) budget s)
      stands.reached stands.all_handed e
