-- The loop keeps that the drive from here is the rest of the drive from the start (`Driving`), for whatever its calls meet, and the output's length.
use Prim.Native.Nat.{ℕ}
use mathlib.Core.Path.{◌≡◌, refl, sym, subst, ◌∙◌}
use native.Mathlib.Omega.{arith}
use Rattle.maskrom.specs.Answers.{step_told}
use Rattle.promise.proofs.Loop.{begins}
use Rattle.ffi.specs.Drive.{DriveMeets, stepping, step_turn, step_drive}
use Rattle.ffi.proofs.Stepping.{drive_on, drive_ends, drive_spent}
use Rattle.ffi.proofs.driving.drive.Goals as goal

pub loop-init : goal.loop-init
loop-init g c =
    let a = c.args in
    (λ comes meets. begins (step_turn comes) a.budget (stepping a.start a.out.now), refl)

pub returns-in-Break : goal.returns-in-Break
returns-in-Break g c = λ comes meets.
    let t = c.step-stepped in
    let l = c.loop in
    let a = c.args in
    drive_ends comes a.budget a.start a.out.now l.counter l.upload l.out (l.invariant.0 comes meets) c.loop-test.true
    (step_told t.result.0) t.result.1 t.new.arg3 (meets _ _ _ _ t.ensures) c.in-Break.number (sym c.pace_of.ensures ∙ c.in-Break.is)

pub loop-preserved : goal.loop-preserved
loop-preserved g c =
    let t = c.step-stepped in
    let l = c.loop in
    let a = c.args in (
      λ comes meets. drive_on comes a.budget a.start a.out.now l.counter l.upload l.out (l.invariant.0 comes meets) c.loop-test.true
          (step_told t.result.0) t.result.1 t.new.arg3 (meets _ _ _ _ t.ensures) (sym c.pace_of.ensures ∙ c.in_default.is),
      t.auto.arg3 ∙ l.invariant.1,
    )

pub returns : goal.returns
returns g c = λ comes meets.
    let l = c.loop in
    let a = c.args in
    let on = l.invariant.0 comes meets in
    let all : l.counter ≡ a.budget = omega (arith, on.within) in
    subst (λ (n : ℕ). DriveMeets n l.out (step_drive comes a.budget a.start a.out.now)) (sym c.number.ensures)
    (drive_spent comes a.budget a.start a.out.now l.counter l.upload l.out on all)
