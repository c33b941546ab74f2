-- A sequence of calls as it happens, of the first variety: each call's answer, and the session, the flash and its buffer after it, are held to that
-- call's own contract alone.
use Rattle.std.specs.Prelude.{ℕ, ◌≡◌, List, [], ◌∷◌, length}
use Rattle.mock_base.specs.declared.error.MockAnswer.{MockAnswer}
use Rattle.mock_table.specs.declared.session.Session.{Session}
use Rattle.mock_effects.specs.Steps.{StepMeets, write_step, read_step}
use Rattle.mock_effects.specs.declared.SessionStep.{SessionStep}
use Rattle.mock_session.specs.Start.{start_step}
use Rattle.mock_session.specs.Lent.{CallMeets}
use Rattle.mock_session.specs.Calls.{Call, start, write, read}

-- a call that was made
pub record Made : Type 0 where
  pub answer : MockAnswer
  pub session : Session
  pub flash : List ℕ
  pub buffer : List ℕ

-- through the lent record: the contracts of `start`, `write_bulk` and `read_bulk`; what is lent by `&` stays
unfoldable pub Lent : Call → Session → List ℕ → Made → Type 0
Lent start s flash m = CallMeets m.answer m.session [] (start_step s (length flash)) × (m.flash ≡ flash) × (m.buffer ≡ [])
Lent (write bytes) s flash m = CallMeets m.answer m.session m.flash (write_step s flash bytes) × (m.buffer ≡ [])
Lent (read config buffer) s flash m = CallMeets m.answer m.session m.buffer (read_step s config flash buffer) × (m.flash ≡ flash)

abbrev pub step_of : Made → SessionStep
step_of m = record { answer = m.answer; session = m.session }

-- by value: the contracts of `start_step`, `write_step` and `read_step`
unfoldable pub ByValue : Call → Session → List ℕ → Made → Type 0
ByValue start s flash m = StepMeets (step_of m) [] (start_step s (length flash)) × (m.flash ≡ flash) × (m.buffer ≡ [])
ByValue (write bytes) s flash m = StepMeets (step_of m) m.flash (write_step s flash bytes) × (m.buffer ≡ [])
ByValue (read config buffer) s flash m = StepMeets (step_of m) m.buffer (read_step s config flash buffer) × (m.flash ≡ flash)

-- calls one after another, each made as `How` says
unfoldable pub Run : (Call → Session → List ℕ → Made → Type 0) → List Call → Session → List ℕ → List Made → Type 0
Run How [] s flash [] = Unit
Run How [] s flash (m ∷ ms) = ⊥
Run How (c ∷ cs) s flash [] = ⊥
Run How (c ∷ cs) s flash (m ∷ ms) = How c s flash m × Run How cs m.session m.flash ms

-- the session and the flash after the last call
unfoldable pub last_session : List Made → Session → Session
last_session [] s = s
last_session (m ∷ ms) s = last_session ms m.session

unfoldable pub last_flash : List Made → List ℕ → List ℕ
last_flash [] flash = flash
last_flash (m ∷ ms) flash = last_flash ms m.flash
