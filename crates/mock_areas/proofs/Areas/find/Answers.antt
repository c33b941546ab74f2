-- The slot that holds the number, and where it starts.
use Prim.Native.Nat.{◌<◌}
use mathlib.Core.Path.{sym, ◌∙◌}
use native.Mathlib.Omega.{arith}
use Rattle.mock_areas.proofs.Room.{slot_inside}
use Rattle.mock_areas.proofs.Finding.{among_below, not_found, found}
use Rattle.mock_areas.proofs.Areas.find.Goals as goal
use Rattle.mock_areas.proofs.Areas.find.Goals.{In_ok-at}

below : (c : In_ok-at) → c.in_ok-at.at < 8
below c = among_below _ c.in_ok-at.at (sym c.first.ensures ∙ c.in_ok-at.was)

pub returns-in_err-at : goal.returns-in_err-at
returns-in_err-at c = c.from_residual.ensures ∙ sym (not_found c.args.self c.args.number c.args.store_length (sym c.first.ensures ∙ c.in_err-at.was))

pub overflow_mul-result : goal.overflow_mul-result
overflow_mul-result c = omega (arith, below (goal.at.overflow_mul-result c).In_ok-at, slot_inside c.in_ok-at.at c.args.store_length (below (goal.at.overflow_mul-result c).In_ok-at))

pub offset_bounds-slots-at : goal.offset_bounds-slots-at
offset_bounds-slots-at c = omega (arith, below (goal.at.offset_bounds-slots-at c).In_ok-at)

pub bounds-slots-at : goal.bounds-slots-at
bounds-slots-at c = below (goal.at.bounds-slots-at c).In_ok-at

pub returns : goal.returns
returns c =
    sym (found c.args.self c.args.number c.args.store_length c.in_ok-at.at (sym c.first.ensures ∙ c.in_ok-at.was))
