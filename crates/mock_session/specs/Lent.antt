-- A call over a session that is lent: the by-value step's answer, record and bytes.
use Rattle.std.specs.Prelude.{ℕ, ◌≡◌, List}
use Rattle.mock_base.specs.Told.{Answers}
use Rattle.mock_base.specs.declared.error.MockAnswer.{MockAnswer}
use Rattle.mock_table.specs.declared.session.Session.{Session}
use Rattle.mock_effects.specs.Steps.{Step}

-- a call that answers r, with `session` behind the reference afterwards and its bytes left as `after`
pub record CallMeets (r : MockAnswer) (session : Session) (after : List ℕ) (s : Step) : Type 0 where
  pub tells : Answers r s.told
  pub next : session ≡ s.next
  pub leaves : after ≡ s.leaves
