-- What was handed over is closed, and a refused part is the end.
use Prim.Native.Nat.{ℕ}
use mathlib.Core.Path.{◌≡◌, refl, ap, sym, subst, ◌∙◌}
use mathlib.Core.List.{List}
use Rattle.std.specs.Prelude.{Result}
use Rattle.std.specs.declared.result.Result.TheVariants.{Err}
use Rattle.std.proofs.Common.{of_calls}
use Rattle.rule_number.specs.Number.{number_of}
use Rattle.promise.specs.Run.{runs}
use Rattle.maskrom.specs.declared.MaskRomOperation.{MaskRomOperation}
use Rattle.maskrom.specs.PartWise.{fresh, close_step}
use Rattle.ffi.specs.declared.driving.HandedOver.{HandedOver}
use Rattle.ffi.specs.Drive.{Drove, DriveMeets, handing, part_turn, on_handed, part_drive}
use Rattle.ffi.specs.Code.{HandsOver, IsNumbered}
use Rattle.ffi.proofs.UploadsTold.{part_refused, all_handed}
use Rattle.ffi.proofs.uploads.parts.Goals as goal

-- the drive, in what the handing over answered
same-drive : (area size : ℕ) (image out : List ℕ) (budget : ℕ) (m : MaskRomOperation) (r : HandedOver) (out-now : List ℕ) → m ≡ fresh area
    → HandsOver r out-now (runs (part_turn size) budget (handing m image out))
    → on_handed (number_of (λ (n : ℕ). n) r.answer) r.operation out-now ≡ part_drive area size image out budget
unfolding part_drive
same-drive area size image out budget m r out-now f h = rw (h.tells, h.next, h.leaves, f) refl

-- a refused part's number is not 0
not-zero : (r : Result Unit ℕ) (n : ℕ) → r ≡ Err n → IsNumbered r → n ≡ 0 → ⊥
not-zero r n e k z = k (e ∙ ap (λ (x : ℕ). Err x) z)

pub returns-in-Err : goal.returns-in-Err
returns-in-Err c =
    let a = c.args in
    let h = c.hand_over-over in
    let out-now = h.new.out in
    let n = c.in-Err.number in
    let d = part_refused h.result.operation out-now n (not-zero h.result.answer n c.in-Err.is h.ensures.numbered)
    ∙ ap (λ (r : Result Unit ℕ). on_handed (number_of (λ (n : ℕ). n) r) h.result.operation out-now) (sym c.in-Err.is)
    ∙ same-drive a.area a.size a.image.now a.out.now a.budget c.new.result h.result out-now c.new.ensures h.ensures in
    record { tells = ap (λ (d : Drove). d.number) d; leaves = ap (λ (d : Drove). d.out) d }

pub returns : goal.returns
returns c =
    let a = c.args in
    let h = c.hand_over-over in
    let out-now = h.new.out in
    let closed = c.drive in
    subst (λ (d : Drove). DriveMeets closed.result closed.new.out d)
    (all_handed h.result.operation out-now (number_of (λ (n : ℕ). n) h.result.answer) (ap (number_of (λ (n : ℕ). n)) c.in_default.is)
    ∙ same-drive a.area a.size a.image.now a.out.now a.budget c.new.result h.result out-now c.new.ensures h.ensures)
    (closed.ensures close_step (λ s lent r left post. search of_calls))
