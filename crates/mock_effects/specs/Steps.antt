-- A bulk call over the session, at a flash of this variety and block size: 60 and 61 first, then the table's turn, applied.
use Rattle.std.specs.Prelude.{ℕ, ◌≡◌, List, length, ◌⊎◌}
use Rattle.promise.specs.Told.{Told, given, refused}
use Rattle.mock_base.specs.Told.{Answers}
use Rattle.mock_base.specs.Flash.{flash_sectors}
use Rattle.protocol.specs.declared.CommandBlock.{CommandBlock}
use Rattle.mock_table.specs.Ways.{stored_by}
use Rattle.mock_table.specs.Table.{range_of, write_turn, read_turn}
use Rattle.mock_table.specs.declared.session.CommandState.{CommandState}
use Rattle.mock_table.specs.declared.session.Session.{Session}
use Rattle.mock_effects.specs.Effects.{flash_after, pending_after, buffer_after}
use Rattle.mock_base.specs.declared.cells.Variety.{Variety}
use Rattle.mock_base.specs.declared.cells.Variety.TheVariants.{First}
use Rattle.protocol_codes.specs.declared.Status as pending
use Rattle.protocol_codes.specs.declared.Status.TheVariants.{SUCCESS, FAILED}
use Rattle.mock_base.specs.declared.config.MockDeviceConfig.{MockDeviceConfig}
use Rattle.mock_effects.specs.declared.SessionStep.{SessionStep}
use Rattle.promise.specs.Does.{Comes}
use Rattle.mock_table.specs.Turn.{session}
use Rattle.mock_table.specs.declared.session.CommandState.TheVariants.{None, IO, Status}

-- what is told, the next session, and the bytes lent mutably as they are left: the flash of a write, the buffer of a read
abbrev pub Step : Type 0
Step = Comes Unit Session

-- 60 and 61 come before all else and keep the transaction
abbrev pub keeps : Session → List ℕ → ℕ → List ℕ → Step
keeps s lent number values = record { told = refused number values; next = s; leaves = lent }

-- a command that awaits its status is told FAILED
unfoldable pub failed : CommandState → CommandState
failed None = None
failed (IO c) = IO c
failed (Status c status) = Status c FAILED

-- the status that applying an effect answered, put into the transaction that the table gave: success leaves it as it is
unfoldable pub pend : pending.Status → CommandState → CommandState
pend SUCCESS state = state
pend FAILED state = failed state

abbrev pub pended : pending.Status → Session → Session
pended status s = session (pend status s.current_command) s.last_reset

unfoldable pub write_step_of : Told ℕ → Variety → ℕ → Session → List ℕ → List ℕ → Step
write_step_of (refused number values) v block s flash bytes = keeps s flash number values
write_step_of (given sectors) v block s flash bytes =
    record {
      told = (write_turn v block s sectors bytes).told;
      next = pended (pending_after (write_turn v block s sectors bytes).effect bytes flash) (write_turn v block s sectors bytes).next;
      leaves = flash_after (write_turn v block s sectors bytes).effect bytes flash;
    }

unfoldable pub write_step_by : Variety → ℕ → Session → List ℕ → List ℕ → Step
write_step_by v block s flash bytes = write_step_of (flash_sectors (length flash)) v block s flash bytes

unfoldable pub read_step_of : Told ℕ → Variety → Session → MockDeviceConfig → List ℕ → List ℕ → Step
read_step_of (refused number values) v s config flash buffer = keeps s buffer number values
read_step_of (given sectors) v s config flash buffer =
    record {
      told = (read_turn v s sectors (length buffer)).told;
      next = (read_turn v s sectors (length buffer)).next;
      leaves = buffer_after config (read_turn v s sectors (length buffer)).effect flash buffer;
    }

unfoldable pub read_step_by : Variety → Session → MockDeviceConfig → List ℕ → List ℕ → Step
read_step_by v s config flash buffer = read_step_of (flash_sectors (length flash)) v s config flash buffer

-- the flash after the data of a write was stored as the variety stores it, and the status that is then pending
abbrev pub written_flash : Variety → CommandBlock → List ℕ → List ℕ → List ℕ
written_flash v c bytes flash = flash_after (stored_by v (range_of c)) bytes flash

abbrev pub written_status : Variety → CommandBlock → List ℕ → List ℕ → pending.Status
written_status v c bytes flash = pending_after (stored_by v (range_of c)) bytes flash

-- of the first variety, which asks for no block size
abbrev pub write_step : Session → List ℕ → List ℕ → Step
write_step s flash bytes = write_step_by First 0 s flash bytes

abbrev pub read_step : Session → MockDeviceConfig → List ℕ → List ℕ → Step
read_step s config flash buffer = read_step_by First s config flash buffer

-- a step that answers r and leaves its bytes `after`
pub record StepMeets (r : SessionStep) (after : List ℕ) (s : Step) : Type 0 where
  pub tells : Answers r.answer s.told
  pub next : r.session ≡ s.next
  pub leaves : after ≡ s.leaves

-- a refused bulk call leaves what it was lent, and the session, but for a transaction that it ends
pub record Untouched (s : Session) (lent : List ℕ) (step : Step) : Type 0 where
  pub leaves : step.leaves ≡ lent
  pub next : (step.next ≡ s) ⊎ (step.next ≡ session None s.last_reset)
