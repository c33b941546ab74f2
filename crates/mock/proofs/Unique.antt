-- Two answers that one contract allows are equal, with the records and the bytes left.
use mathlib.Core.Path.{◌≡◌, ap₂, sym, ◌∙◌}
use mathlib.Core.List.{List}
use Prim.Native.Nat.{ℕ}
use Rattle.mock_base.specs.declared.error.MockAnswer.{MockAnswer}
use Rattle.mock_base.proofs.Unique.{answers_unique}
use Rattle.mock.specs.Device.{Call, MockMeets, Creation, CreateMeets}
use Rattle.mock.specs.declared.device.MockState.{MockState}
use Rattle.mock.specs.declared.device.MockStep.{MockStep}

same_step : (r s : MockStep) → r.answer ≡ s.answer → r.state ≡ s.state → r ≡ s
same_step r s a b = ap₂ (λ (x : MockAnswer) (y : MockState). record { answer = x; state = y }) a b

pub call_unique : (r s : MockStep) (after later : List ℕ) (c : Call) → MockMeets r after c → MockMeets s later c → (r ≡ s) × (after ≡ later)
call_unique r s after later c m n =
    (same_step r s (answers_unique r.answer s.answer c.told m.tells n.tells) (m.next ∙ sym n.next), m.leaves ∙ sym n.leaves)

pub create_unique : (r s : MockStep) (c : Creation) → CreateMeets r c → CreateMeets s c → r ≡ s
create_unique r s c m n = same_step r s (answers_unique r.answer s.answer c.told m.tells n.tells) (m.fresh ∙ sym n.fresh)
