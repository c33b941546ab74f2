-- Two outcomes that come to one turn are equal.
use mathlib.Core.Path.{◌≡◌, ap, sym, ◌∙◌}
use Rattle.mock_base.specs.declared.error.MockAnswer.{MockAnswer}
use Rattle.mock_base.proofs.Unique.{answers_unique}
use Rattle.mock_table.specs.Turn.{Turn, OutcomeMeets}
use Rattle.mock_table.specs.declared.session.Session.{Session}
use Rattle.mock_table.specs.declared.outcome.Effect.{Effect}
use Rattle.mock_table.specs.declared.outcome.Outcome.{Outcome}

pub outcome_unique : (r s : Outcome) (t : Turn) → OutcomeMeets r t → OutcomeMeets s t → r ≡ s
outcome_unique r s t m n =
    ap (λ (x : MockAnswer). record { answer = x; session = r.session; effect = r.effect })
    (answers_unique r.answer s.answer t.told m.tells n.tells)
    ∙ ap (λ (x : Session). record { answer = s.answer; session = x; effect = r.effect }) (m.next ∙ sym n.next)
    ∙ ap (λ (x : Effect). record { answer = s.answer; session = s.session; effect = x }) (m.effect ∙ sym n.effect)
