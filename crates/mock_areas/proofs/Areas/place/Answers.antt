-- The slot that holds the number where there is one, else the first that is free.
use mathlib.Core.Path.{sym, ◌∙◌}
use native.Mathlib.Omega.{arith}
use Rattle.mock_areas.proofs.Finding.{among_below, placed_held, placed_free, placed_nowhere}
use Rattle.mock_areas.proofs.Areas.place.Goals as goal

pub offset_bounds-slots-slot : goal.offset_bounds-slots-slot
offset_bounds-slots-slot c = omega (arith, among_below _ c.in-Some.slot (sym c.first.ensures ∙ c.in-Some.is))

pub bounds-slots-slot : goal.bounds-slots-slot
bounds-slots-slot c = among_below _ c.in-Some.slot (sym c.first.ensures ∙ c.in-Some.is)

pub returns-in-Some : goal.returns-in-Some
returns-in-Some c =
    sym (placed_held c.args.number c.args.self.slots c.in-Some.slot (sym c.first.ensures ∙ c.in-Some.is))

pub returns-in_err-slot : goal.returns-in_err-slot
returns-in_err-slot c =
    c.from_residual.ensures ∙ sym (placed_nowhere c.args.number c.args.self.slots (sym c.first.ensures ∙ c.in_default.is) (sym c.first-2.ensures ∙ c.in_err-slot.was))

pub returns : goal.returns
returns c =
    sym (placed_free c.args.number c.args.self.slots c.in_ok-slot.slot (sym c.first.ensures ∙ c.in_default.is)
    (sym c.first-2.ensures ∙ c.in_ok-slot.was))
