-- What a loop over the steps of an upload keeps, and how it is left.
use Prim.Native.Nat.{ℕ, ◌+◌, ◌<◌}
use mathlib.Core.Path.{◌≡◌, refl, ap, ap₂, sym, ◌∙◌}
use mathlib.Core.List.{List}
use native.Mathlib.Omega.{arith}
use lib.ListN.{length}
use Rattle.std.specs.declared.result.Result.TheVariants.{Err}
use Rattle.std.specs.declared.ops.ControlFlow.{ControlFlow}
use Rattle.std.specs.declared.ops.ControlFlow.TheVariants.{Continue, Break}
use Rattle.promise.specs.Told.{Told, given, refused, number}
use Rattle.promise.specs.Does.{Does, Meets}
use Rattle.maskrom.specs.declared.UploadError.{UploadError}
use Rattle.maskrom.specs.declared.UploadError.TheVariants.{OutputTooShort, ImageDiffers}
use Rattle.maskrom.specs.Answers.{Asks, writes, finish, step_told, upload_error_number}
use Rattle.promise.specs.Run.{ends, goes, end_told, Ran, runs}
use Rattle.promise.proofs.Loop.{On, goes_on, stops, spent}
use Rattle.ffi.specs.Drive.{DriveMeets, Stepping, stepping, onward, step_turn, step_drive}
use Rattle.ffi.specs.Code.{pace_of}

-- a refused step is the last, and ends with its number
pub last_pace : (error : UploadError) → ◌≡◌ {A = ControlFlow ℕ Unit} (Break (upload_error_number error)) (pace_of (step_told (Err error)))
unfolding step_told pace_of
last_pace OutputTooShort = refl
last_pace ImageDiffers = refl

goes_only : {C : Type 0} (n : ℕ) → ◌≡◌ {A = ControlFlow ℕ Unit} (Continue tt) (Break n) → C
goes_only n e = absurd (let z : ◌≡◌ {A = ℕ} 0 1 = cc in omega arith)

-- what is told at the end of a run
ending : Told Asks → Told Unit
ending (given a) = given tt
ending (refused n vs) = refused n vs

module _ {S : Type 0} (s : S) where
  pace_goes : (t : Told Asks) → pace_of t ≡ Continue tt → onward t s ≡ goes s
  unfolding pace_of onward
  pace_goes (given (writes c)) e = refl
  pace_goes (given finish) e = goes_only 0 (sym e)
  pace_goes (refused n vs) e = goes_only n (sym e)

  pace_ends : (t : Told Asks) (n : ℕ) → pace_of t ≡ Break n → onward t s ≡ ends (ending t) s
  unfolding pace_of onward ending
  pace_ends (given (writes c)) n e = goes_only n e
  pace_ends (given finish) n e = refl
  pace_ends (refused m vs) n e = refl

pace_number : (t : Told Asks) (n : ℕ) → pace_of t ≡ Break n → n ≡ number (ending t)
unfolding pace_of ending number
pace_number (given (writes c)) n e = goes_only n e
pace_number (given finish) n e = cc
pace_number (refused m vs) n e = cc

module _ {R : Type 0} (step : R → ℕ → Told (Does Asks R)) (budget : ℕ) (r₀ : R) (out₀ : List ℕ) where
  abbrev whole : Ran Unit (Stepping R)
  whole = runs (step_turn step) budget (stepping r₀ out₀)

  -- `used` steps brought the drive here
  abbrev pub Driving : ℕ → R → List ℕ → Type 0
  Driving used r out = On (step_turn step) budget used whole (stepping r out)

  driven : (n : ℕ) (out : List ℕ) (run : Ran Unit (Stepping R)) → whole ≡ run → n ≡ number (end_told run.end) → out ≡ run.state.out
      → DriveMeets n out (step_drive step budget r₀ out₀)
  unfolding step_drive
  driven n out run e f g =
      record { tells = f ∙ ap (λ (x : Ran Unit (Stepping R)). number (end_told x.end)) (sym e); leaves = g ∙ ap (λ (x : Ran Unit (Stepping R)). x.state.out) (sym e) }

  module _ (used : ℕ) (r : R) (out : List ℕ) (on : Driving used r out) where
    pub drive_spent : used ≡ budget → DriveMeets 28 out (step_drive step budget r₀ out₀)
    unfolding number end_told
    drive_spent e = driven 28 out _ (spent (step_turn step) budget used (stepping r out) e on) refl refl

    module _ (h : used < budget) (told : Told Asks) (back : R) (after-out : List ℕ) (m : Meets told back out after-out r (step r (length out))) where
      turned : step_turn step (stepping r out) ≡ onward told (stepping back after-out)
      unfolding step_turn
      turned = sym (ap₂ onward m.tells (ap₂ stepping m.next m.leaves))

      pub drive_on : pace_of told ≡ Continue tt → Driving (used + 1) back after-out
      drive_on e = goes_on (step_turn step) budget used (stepping r out) (stepping back after-out) h (turned ∙ pace_goes (stepping back after-out) told e) on

      pub drive_ends : (n : ℕ) → pace_of told ≡ Break n → DriveMeets n after-out (step_drive step budget r₀ out₀)
      unfolding end_told
      drive_ends n e =
          driven n after-out _
          (stops (step_turn step) budget used (stepping r out) (stepping back after-out) (ending told) h (turned ∙ pace_ends (stepping back after-out) told n e) on)
          (pace_number told n e) refl
