-- The loop keeps that the run from here is the rest of the run from the start (`On`), and the store's length.
use mathlib.Core.Path.{◌≡◌}
use lib.ListN.{length}
use Rattle.promise.specs.Run.{runs}
use Rattle.promise.proofs.Loop.{On}
use Rattle.run_upload.specs.Load.{load_state, load_turn}
use Rattle.run_upload.proofs.run_on.Given as goal

abbrev pub invariant-loop-used : goal.invariant-loop-used
invariant-loop-used l =
    On (load_turn l.image) l.budget l.used (runs (load_turn l.image) l.budget (load_state l.initial.upload l.initial.device l.initial.store)) (load_state l.upload l.device l.store)
    × (length l.store ≡ length l.initial.store)
