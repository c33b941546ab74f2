-- Two answers that one contract allows are equal, with the session and the bytes left.
use mathlib.Core.Path.{◌≡◌, ap₂, sym, ◌∙◌}
use mathlib.Core.List.{List}
use Prim.Native.Nat.{ℕ}
use Rattle.mock_base.specs.declared.error.MockAnswer.{MockAnswer}
use Rattle.mock_base.proofs.Unique.{answers_unique}
use Rattle.mock_table.specs.declared.session.Session.{Session}
use Rattle.mock_effects.specs.Steps.{Step, StepMeets}
use Rattle.mock_effects.specs.declared.SessionStep.{SessionStep}

pub step_unique : (r s : SessionStep) (after later : List ℕ) (t : Step) → StepMeets r after t → StepMeets s later t → (r ≡ s) × (after ≡ later)
step_unique r s after later t m n = (
  ap₂ (λ (a : MockAnswer) (b : Session). record { answer = a; session = b })
      (answers_unique r.answer s.answer t.told m.tells n.tells) (m.next ∙ sym n.next),
  m.leaves ∙ sym n.leaves,
)
