-- Two answers that one contract allows are equal, with the record and the bytes left.
use Prim.Native.Nat.{ℕ}
use mathlib.Core.Path.{◌≡◌, sym, ◌∙◌}
use mathlib.Core.List.{List}
use Rattle.mock_base.specs.declared.error.MockAnswer.{MockAnswer}
use Rattle.mock_base.proofs.Unique.{answers_unique}
use Rattle.mock_table.specs.declared.session.Session.{Session}
use Rattle.mock_effects.specs.Steps.{Step}
use Rattle.mock_session.specs.Lent.{CallMeets}

pub call_unique : (r q : MockAnswer) (s t : Session) (after later : List ℕ) (step : Step) → CallMeets r s after step → CallMeets q t later step
    → (r ≡ q) × (s ≡ t) × (after ≡ later)
call_unique r q s t after later step m n =
    (answers_unique r q step.told m.tells n.tells, m.next ∙ sym n.next, m.leaves ∙ sym n.leaves)
