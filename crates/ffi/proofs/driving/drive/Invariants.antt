-- The loop keeps that the drive from here is the rest of the drive from the start (`Driving`), for whatever its calls meet, and the output's length.
use mathlib.Core.Path.{◌≡◌}
use lib.ListN.{length}
use Rattle.ffi.specs.Code.{CallsMeet}
use Rattle.ffi.proofs.Stepping.{Driving}
use Rattle.ffi.proofs.driving.drive.Given as goal

abbrev pub invariant-loop : goal.invariant-loop
invariant-loop g l =
    ((comes : _) → CallsMeet (goal.F-post g l.step) comes → Driving comes l.budget l.initial.upload l.initial.out l.counter l.upload l.out)
    × (length l.out ≡ length l.initial.out)
