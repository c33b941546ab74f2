-- The loop keeps that the drive from here is the rest of the drive from the start (`Handling`), that what is left is a rest of the image, and the
-- output's length.
use Prim.Native.Nat.{◌≤◌}
use mathlib.Core.Path.{◌≡◌}
use lib.ListN.{length, drop}
use Rattle.ffi.proofs.Handing.{Handling}
use Rattle.ffi.proofs.driving.hand_over.Given as goal

abbrev pub invariant-loop : goal.invariant-loop
invariant-loop l =
    Handling l.size l.budget l.initial.operation l.image l.initial.out l.counter l.operation (drop l.from l.image) l.out × (l.from ≤ length l.image) × (length l.out ≡ length l.initial.out)
