-- Two answers that one promise allows are equal: the record handed back and the bytes left are the promise's, and so nothing is open.
use Prim.Native.Nat.{ℕ, ◌<◌}
use mathlib.Core.Path.{◌≡◌, refl, ap, ap₂, sym, ◌∙◌}
use mathlib.Core.List.{List}
use lib.ListN.{length}
use lib.Dec.{eqb}
use Rattle.promise.specs.Told.{Told, given, refused}
use Rattle.promise.specs.Rules.{pick, too_short}
use Rattle.promise.specs.Bytes.{front}
use Rattle.promise.specs.Does.{Does, sent, after, Meets}
use Rattle.maskrom_transfer.proofs.Unique.{same}
use Rattle.maskrom.proofs.Cases.{close_20}
use Rattle.maskrom.specs.declared.MaskRomOperation.{MaskRomOperation}
use Rattle.maskrom.specs.declared.WholeUpload.{WholeUpload}
use Rattle.maskrom.specs.declared.PartStep.TheVariants as part
use Rattle.maskrom.specs.declared.PartStepped.{PartStepped}
use Rattle.maskrom.specs.declared.UploadStep.TheVariants as upload
use Rattle.maskrom.specs.declared.CloseStepped.{CloseStepped}
use Rattle.maskrom.specs.declared.WholeStepped.{WholeStepped}
use Rattle.maskrom.specs.declared.WholeStart.{WholeStart}
use Rattle.maskrom.specs.Answers.{closed_already, Handed, took, filled, Asks, writes, finish, part_told, step_told, start_told}
use Rattle.maskrom.specs.PartWise.{part_step, close_step}
use Rattle.maskrom.specs.Whole.{StartMeets, whole_step}
use Rattle.maskrom.specs.Code.{parted, closed_with, stepped_with}
use Rattle.std.specs.Prelude.{Result}
use Rattle.maskrom.specs.declared.PartStep.{PartStep}
use Rattle.maskrom.specs.declared.PartError.{PartError}
use Rattle.std.specs.declared.result.Result.TheVariants.{Ok, Err}
use Rattle.maskrom.specs.declared.PartError.TheVariants as part_error
use Rattle.maskrom.specs.declared.UploadStep.{UploadStep}
use Rattle.maskrom.specs.declared.UploadError.{UploadError}
use Rattle.maskrom.specs.declared.UploadError.TheVariants as upload_error
use Rattle.maskrom.specs.declared.ImageTooLong.{ImageTooLong}

-- number and values say which answer it was
part_of : Told Handed → Result PartStep PartError
part_of (given (took n)) = Ok (part.Taken n)
part_of (given (filled n c)) = Ok (part.WriteControl n c)
part_of (refused n vs) = pick (eqb n too_short) (Err part_error.OutputTooShort) (pick (eqb n closed_already) (Err part_error.AlreadyClosed) (Err part_error.ImageTooLong))

part_back : (r : Result PartStep PartError) → part_of (part_told r) ≡ r
unfolding part_of part_told
part_back (Ok (part.Taken n)) = refl
part_back (Ok (part.WriteControl n c)) = refl
part_back (Err part_error.OutputTooShort) = refl
part_back (Err part_error.AlreadyClosed) = refl
part_back (Err part_error.ImageTooLong) = refl

step_of : Told Asks → Result UploadStep UploadError
step_of (given (writes c)) = Ok (upload.WriteControl c)
step_of (given finish) = Ok upload.Finished
step_of (refused n vs) = pick (eqb n too_short) (Err upload_error.OutputTooShort) (Err upload_error.ImageDiffers)

step_back : (r : Result UploadStep UploadError) → step_of (step_told r) ≡ r
unfolding step_of step_told
step_back (Ok (upload.WriteControl c)) = refl
step_back (Ok upload.Finished) = refl
step_back (Err upload_error.OutputTooShort) = refl
step_back (Err upload_error.ImageDiffers) = refl

start_of : Told Unit → Result Unit ImageTooLong
start_of (given u) = Ok tt
start_of (refused n vs) = Err (record {})

start_back : (r : Result Unit ImageTooLong) → start_of (start_told r) ≡ r
unfolding start_of start_told
start_back (Ok u) = refl
start_back (Err e) = refl

-- a left inverse makes two answers one
one : {A B : Type 0} (tell : B → A) (of : A → B) → ((b : B) → of (tell b) ≡ b) → (x y : B) → tell x ≡ tell y → x ≡ y
one tell of back x y e = sym (back x) ∙ ap of e ∙ back y

pub part_one : (r r' : PartStepped) (m : MaskRomOperation) (xs old new new' : List ℕ)
    → Meets (part_told r.step) r.next old new m (part_step m xs (length old))
    → Meets (part_told r'.step) r'.next old new' m (part_step m xs (length old)) → (r ≡ r') × (new ≡ new')
part_one r r' m xs old new new' p q =
    let s = same (part_told r.step) (part_told r'.step) r.next r'.next m old new new' (part_step m xs (length old)) p q in
    (ap₂ parted (one part_told part_of part_back r.step r'.step s.tells) s.next, s.leaves)

pub close_one : (r r' : CloseStepped) (m : MaskRomOperation) (old new new' : List ℕ)
    → Meets (step_told r.step) r.next old new m (close_step m (length old))
    → Meets (step_told r'.step) r'.next old new' m (close_step m (length old)) → (r ≡ r') × (new ≡ new')
close_one r r' m old new new' p q =
    let s = same (step_told r.step) (step_told r'.step) r.next r'.next m old new new' (close_step m (length old)) p q in
    (ap₂ closed_with (one step_told step_of step_back r.step r'.step s.tells) s.next, s.leaves)

-- a closing step refused by 20 shuts nothing: no other record than the one handed in may stand beside it
pub close_short : (r : CloseStepped) (m : MaskRomOperation) (old new : List ℕ) → length old < 4096
    → Meets (step_told r.step) r.next old new m (close_step m (length old)) → (r.next ≡ m) × (new ≡ old)
unfolding after sent
close_short r m old new h p =
    let e = close_20 m (length old) h in
    (p.next ∙ ap (after m) e, p.leaves ∙ ap (λ (t : Told (Does Asks MaskRomOperation)). front (sent t) old) e)

pub step_one : (r r' : WholeStepped) (u : WholeUpload) (image old new new' : List ℕ)
    → Meets (step_told r.step) r.next old new u (whole_step u image (length old))
    → Meets (step_told r'.step) r'.next old new' u (whole_step u image (length old)) → (r ≡ r') × (new ≡ new')
step_one r r' u image old new new' p q =
    let s = same (step_told r.step) (step_told r'.step) r.next r'.next u old new new' (whole_step u image (length old)) p q in
    (ap₂ stepped_with (one step_told step_of step_back r.step r'.step s.tells) s.next, s.leaves)

pub start_one : (r r' : WholeStart) (area : ℕ) (image : List ℕ)
    → StartMeets r area image → StartMeets r' area image → r ≡ r'
start_one r r' area image p q =
    ap₂ (λ (s : Result Unit ImageTooLong) (u : WholeUpload). record { start = s; upload = u })
    (one start_told start_of start_back r.start r'.start (p.tells ∙ sym q.tells)) (p.next ∙ sym q.next)
