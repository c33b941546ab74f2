-- A sequence of calls over one session and one flash, of the first variety.
use Rattle.std.specs.Prelude.{ℕ, ◌≡◌, List, [], ◌∷◌, length}
use Rattle.promise.specs.Told.{Told}
use Rattle.mock_base.specs.Told.{Answers}
use Rattle.mock_base.specs.declared.error.MockAnswer.{MockAnswer}
use Rattle.mock_table.specs.declared.session.Session.{Session}
use Rattle.mock_effects.specs.Steps.{write_step, read_step}
use Rattle.mock_base.specs.declared.config.MockDeviceConfig.{MockDeviceConfig}
use Rattle.mock_session.specs.Start.{start_step}

-- a start, a bulk write of these bytes, a bulk read into this buffer
pub data Call : Type 0 where
  start : Call
  write : List ℕ → Call
  read : MockDeviceConfig → List ℕ → Call

-- what is told, and the session, the flash and the call's own buffer as it leaves them (no bytes where none is lent)
pub record Came : Type 0 where
  pub told : Told Unit
  pub session : Session
  pub flash : List ℕ
  pub buffer : List ℕ

-- one call by value
unfoldable pub call_by : Call → Session → List ℕ → Came
call_by start s flash =
    record { told = (start_step s (length flash)).told; session = (start_step s (length flash)).next; flash = flash; buffer = [] }
call_by (write bytes) s flash =
    record { told = (write_step s flash bytes).told; session = (write_step s flash bytes).next; flash = (write_step s flash bytes).leaves; buffer = [] }
call_by (read config buffer) s flash =
    record { told = (read_step s config flash buffer).told; session = (read_step s config flash buffer).next; flash = flash; buffer = (read_step s config flash buffer).leaves }

-- what is told by each call, each call's buffer, and the session and flash after the last
pub record Ended : Type 0 where
  pub told : List (Told Unit)
  pub buffers : List (List ℕ)
  pub session : Session
  pub flash : List ℕ

abbrev pub after : Came → Ended → Ended
after came rest =
    record { told = came.told ∷ rest.told; buffers = came.buffer ∷ rest.buffers; session = rest.session; flash = rest.flash }

-- the sequence by value: each call is handed the session and the flash that the one before left
unfoldable pub calls_by : List Call → Session → List ℕ → Ended
calls_by [] s flash = record { told = []; buffers = []; session = s; flash = flash }
calls_by (c ∷ cs) s flash = after (call_by c s flash) (calls_by cs (call_by c s flash).session (call_by c s flash).flash)

-- answers, one for each thing told
unfoldable pub AllAnswer : List MockAnswer → List (Told Unit) → Type 0
AllAnswer [] [] = Unit
AllAnswer [] (told ∷ tolds) = ⊥
AllAnswer (answer ∷ answers) [] = ⊥
AllAnswer (answer ∷ answers) (told ∷ tolds) = Answers answer told × AllAnswer answers tolds

-- calls that answer so, and leave their buffers, the session and the flash so
pub record CallsMeet (answers : List MockAnswer) (buffers : List (List ℕ)) (session : Session) (flash : List ℕ) (e : Ended) : Type 0 where
  pub tells : AllAnswer answers e.told
  pub leaves : buffers ≡ e.buffers
  pub next : session ≡ e.session
  pub flash_left : flash ≡ e.flash
