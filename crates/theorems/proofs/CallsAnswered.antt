-- A caller can always go on: every call has an answer that its function's promise allows, and with an output that is long enough the next part and the
-- next closing step bring him one call further.
use Prim.Native.Nat.{ℕ, ◌+◌, ◌-◌, ◌<◌, ◌≤◌}
use mathlib.Core.Path.{◌≡◌, refl, ap, sym, ◌∙◌}
use mathlib.Core.Bool.{false}
use mathlib.Core.List.{List, [], ◌++◌}
use native.Mathlib.Omega.{arith}
use native.Mathlib.Decide.{dec_lt}
use lib.ListN.{length, take, drop}
use lib.Dec.{eqb, ltb}
use Rattle.promise.specs.Told.{Told, given}
use Rattle.promise.specs.Rules.{or_refuse}
use Rattle.promise.specs.Bytes.{front}
use Rattle.promise.specs.Does.{Does, said, sent, after}
use Rattle.promise.proofs.Outcome.{by_test}
use Rattle.maskrom_transfer.specs.declared.MaskRomSteps.{MaskRomSteps}
use Rattle.maskrom_transfer.specs.declared.MaskRomSteps.TheVariants.{Writing, Check, Dummy, Done}
use Rattle.maskrom_transfer.specs.Moves.{block_size, moves_at}
use Rattle.maskrom.specs.declared.MaskRomOperation.{MaskRomOperation}
use Rattle.maskrom.specs.declared.PartStep.TheVariants as part
use Rattle.maskrom.specs.declared.PartStepped.{PartStepped}
use Rattle.maskrom.specs.declared.UploadStep.TheVariants as upload
use Rattle.maskrom.specs.declared.CloseStepped.{CloseStepped}
use Rattle.maskrom.specs.Answers.{longest, control, Handed, Asks, part_told, step_told}
use Rattle.maskrom.specs.PartWise.{waiting, held, closed, takes, part_step, asks, close_step}
use Rattle.maskrom.specs.Code.{parted, closed_with}
use Rattle.maskrom.proofs.Cases.{close_20, close_acts}
use Rattle.theorems.specs.PartDriver.{Transfer}
use Rattle.maskrom.specs.Calls.{PartMeets, CloseMeets}
use Rattle.theorems.specs.AnyCaller.{taken_by, handed_seen, asked_seen, Reached, hands, closes}
use Rattle.theorems.proofs.AnyCaller.{closing_not_refused}
use Rattle.theorems.proofs.ImageInOrder.{slice_not_refused}
use Rattle.std.specs.Prelude.{Result}
use Rattle.maskrom.specs.declared.PartStep.{PartStep}
use Rattle.maskrom.specs.declared.PartError.{PartError}
use Rattle.std.specs.declared.result.Result.TheVariants.{Ok, Err}
use Rattle.maskrom.specs.declared.PartError.TheVariants as part_error
use Rattle.maskrom.specs.declared.UploadStep.{UploadStep}
use Rattle.maskrom.specs.declared.UploadError.{UploadError}
use Rattle.maskrom.specs.declared.UploadError.TheVariants as upload_error

pub part_told_lem : (m : MaskRomOperation) (xs : List ℕ) (room : ℕ) → (s : Result PartStep PartError) × (part_told s ≡ said (part_step m xs room))
unfolding part_step or_refuse takes said part_told
part_told_lem m xs room =
    let ys = take (4096 - waiting m) xs in
    let P : Told (Does Handed MaskRomOperation) → Type 0 = λ t. (s : Result PartStep PartError) × (part_told s ≡ said t) in
    by_test P (ltb room 4096) (λ e. ((Err part_error.OutputTooShort), refl))
    (λ e. by_test P (closed m.steps) (λ e. ((Err part_error.AlreadyClosed), refl))
    (λ e. by_test P (ltb longest (m.taken + length xs)) (λ e. ((Err part_error.ImageTooLong), refl))
    (λ e. by_test (λ (d : Does Handed MaskRomOperation). (s : Result PartStep PartError) × (part_told s ≡ given d.says)) (eqb (waiting m + length ys) 4096)
    (λ e. (Ok (part.WriteControl (length ys) (control m.area 4096)), refl)) (λ e. (Ok (part.Taken (length ys)), refl)))))

-- a call of `part` has an answer, at every record
pub part_answered : (m : MaskRomOperation) (xs before : List ℕ) → (r : PartStepped) × (now : List ℕ) × PartMeets r m xs before now
part_answered m xs before =
    let t = part_step m xs (length before) in
    let s = part_told_lem m xs (length before) in
    (parted s.0 (after m t), front (sent t) before, record { tells = s.1; next = refl; leaves = refl })

pub asked_told : (s : MaskRomSteps) (area n : ℕ) → (x : Result UploadStep UploadError) × (step_told x ≡ given (asks s area n))
unfolding asks step_told
asked_told Writing area n = (Ok (upload.WriteControl (control area n)), refl)
asked_told Check area n = (Ok (upload.WriteControl (control area n)), refl)
asked_told Dummy area n = (Ok (upload.WriteControl (control area n)), refl)
asked_told Done area n = ((Ok upload.Finished), refl)

pub close_told : (m : MaskRomOperation) (room : ℕ) → Dec (room < 4096) → (s : Result UploadStep UploadError) × (step_told s ≡ said (close_step m room))
unfolding said step_told
close_told m room (yes h) = ((Err upload_error.OutputTooShort), sym (ap said (close_20 m room h)))
close_told m room (no h) =
    let long : 4096 ≤ room = omega arith in
    let x = asked_told m.steps m.area (length (moves_at m.steps m.crc (held m)).bytes) in
    (x.0, x.1 ∙ sym (ap said (close_acts m room long)))

-- and a call of `close`
pub close_answered : (m : MaskRomOperation) (before : List ℕ) → (r : CloseStepped) × (now : List ℕ) × CloseMeets r m before now
close_answered m before =
    let t = close_step m (length before) in
    let s = close_told m (length before) (dec_lt (length before) 4096) in
    (closed_with s.0 (after m t), front (sent t) before, record { tells = s.1; next = refl; leaves = refl })

module _ (area : ℕ) (image : List ℕ) (l : length image ≤ longest) (m : MaskRomOperation) (left : List ℕ) (ts : List Transfer)
    (d : Reached area image m left ts) (before : List ℕ) (h : block_size ≤ length before) where
  -- before the image is shut, any part that begins what is left
  pub part_goes_on : (part rest : List ℕ) → closed m.steps ≡ false → left ≡ part ++ rest
      → (r : PartStepped) × (now : List ℕ) × (a : Handed) × PartMeets r m part before now × (part_told r.step ≡ given a)
      × Reached area image r.next (drop (taken_by a) left) (ts ++ handed_seen a now)
  part_goes_on part rest c e =
      let t = part_answered m part before in
      let g = slice_not_refused area image m left ts part rest before t.1 t.0 d l c e t.2 h in
      (t.0, t.1, g.0, t.2, g.1, hands m left ts part rest before t.1 t.0 g.0 d e t.2 g.1)

  -- and once nothing is left, a closing step
  pub closing_goes_on : left ≡ []
      → (r : CloseStepped) × (now : List ℕ) × (a : Asks) × CloseMeets r m before now × (step_told r.step ≡ given a)
      × Reached area image r.next left (ts ++ asked_seen a now)
  closing_goes_on e =
      let t = close_answered m before in
      let g = closing_not_refused m before t.1 t.0 t.2 h in
      (t.0, t.1, g.0, t.2, g.1, closes m left ts before t.1 t.0 g.0 d e t.2 g.1)
