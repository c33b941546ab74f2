-- What holds at every record, also at those that no fresh start makes: the finish repeats for ever, and a refused start leaves a record at which its
-- image differs.
use Prim.Native.Nat.{ℕ, ◌<◌, ◌≤◌}
use mathlib.Core.Path.{◌≡◌, refl, ap, ap₂, sym, ◌∙◌}
use mathlib.Core.List.{List, []}
use native.Mathlib.Nat.{add-zero}
use native.Mathlib.Omega.{arith}
use lib.ListN.{length}
use borrow.Author.Tests.{lt-ltb}
use Rattle.promise.specs.Told.{given, refused}
use Rattle.promise.specs.Rules.{or_refuse, differs}
use Rattle.maskrom_transfer.specs.declared.MaskRomSteps.{MaskRomSteps}
use Rattle.maskrom_transfer.specs.declared.MaskRomSteps.TheVariants.{Done}
use Rattle.maskrom.specs.declared.MaskRomOperation.{MaskRomOperation}
use Rattle.maskrom.specs.declared.WholeUpload.{WholeUpload}
use Rattle.maskrom_transfer.specs.Moves.{block_size, moves, moves_at}
use Rattle.maskrom.specs.Answers.{longest, finish}
use Rattle.promise.specs.Does.{does, after}
use Rattle.maskrom.specs.PartWise.{asks, with_moved, close_step}
use Rattle.maskrom.specs.Whole.{fresh_whole, start_step, most, whole_step}
use Rattle.maskrom.proofs.Cases.{whole_27}
use Rattle.theorems.proofs.ClosingSends.{close_goes}
use Rattle.theorems.proofs.WholeSends.{whole_goes}
use Rattle.crc.proofs.Laws.{over_empty}

-- a record that is done finishes, and is left as it was: it finishes again, for ever
pub close_repeats : (m : MaskRomOperation) (room : ℕ) → m.steps ≡ Done → block_size ≤ room → close_step m room ≡ given (does finish [] m)
unfolding asks moves_at
close_repeats m room e h =
    close_goes m Done (moves [] m.crc Done) e refl room h ∙ ap (λ (s : MaskRomSteps). given (does finish [] (with_moved m m.crc s))) (sym e)

abbrev reached : WholeUpload → ℕ → MaskRomSteps → WholeUpload
reached u n s = record { area = u.area; length = u.length; taken = n; crc = u.crc; steps = s }

pub whole_repeats : (u : WholeUpload) (image : List ℕ) (room : ℕ) → u.steps ≡ Done → length image ≡ u.length → block_size ≤ room
    → whole_step u image room ≡ given (does finish [] u)
unfolding asks moves_at most
whole_repeats u image room e l h =
    whole_goes image u Done [] u.crc (moves [] u.crc Done) l e refl (over_empty u.crc) refl room h
    ∙ ap₂ (λ (n : ℕ) (s : MaskRomSteps). given (does finish [] (reached u n s))) (add-zero u.taken) (sym e)

-- beside a refused start stands a record at which the refused image differs
pub refused_start : (area : ℕ) (image : List ℕ) (room : ℕ) → longest < length image → block_size ≤ room
    → whole_step (after (fresh_whole area 0) (start_step area image)) image room ≡ refused differs []
unfolding start_step or_refuse after
refused_start area image room l h = rw (lt-ltb longest (length image) l) (whole_27 (fresh_whole area 0) image room h (omega arith))
