-- What an answer, read as a number, says of the rest of the drive.
use Prim.Native.Nat.{ℕ, zero, suc}
use mathlib.Core.Path.{◌≡◌, refl, ap}
use mathlib.Core.List.{List}
use native.Mathlib.Omega.{arith}
use Rattle.promise.specs.Told.{Told, given, refused}
use Rattle.promise.specs.Does.{Does, said, after}
use Rattle.maskrom.specs.declared.MaskRomOperation.{MaskRomOperation}
use Rattle.maskrom.specs.declared.WholeUpload.{WholeUpload}
use Rattle.maskrom.specs.PartWise.{close_step}
use Rattle.ffi.specs.Drive.{drove, step_drive, step_of, on_start, most_closing, on_handed}

-- an upload whose start is refused is not driven, and one that is started is
module _ (image out : List ℕ) (budget : ℕ) where
  pub start_refused : (s : Told (Does Unit WholeUpload)) (n : ℕ) (vs : List ℕ) → refused n vs ≡ said s → on_start s image out budget ≡ drove n out
  unfolding on_start said
  start_refused (given d) n vs e = absurd (let z : ◌≡◌ {A = ℕ} 0 1 = cc in omega arith)
  start_refused (refused m ws) n vs e = let same : m ≡ n = cc in ap (λ (k : ℕ). drove k out) same

  pub start_given : (s : Told (Does Unit WholeUpload)) (u₀ u : WholeUpload) → given tt ≡ said s → u ≡ after u₀ s
      → step_drive (step_of image) budget u out ≡ on_start s image out budget
  unfolding on_start said after
  start_given (given d) u₀ u e f = ap (λ (x : WholeUpload). step_drive (step_of image) budget x out) f
  start_given (refused m ws) u₀ u e f = absurd (let z : ◌≡◌ {A = ℕ} 0 1 = cc in omega arith)

-- an image of which a part was refused is not closed, and one that was handed over is
module _ (m : MaskRomOperation) (out : List ℕ) where
  pub part_refused : (n : ℕ) → (n ≡ 0 → ⊥) → drove n out ≡ on_handed n m out
  unfolding on_handed
  part_refused zero h = absurd (h refl)
  part_refused (suc n) h = refl

  pub all_handed : (n : ℕ) → n ≡ 0 → step_drive close_step most_closing m out ≡ on_handed n m out
  unfolding on_handed
  all_handed n e = rw e refl
