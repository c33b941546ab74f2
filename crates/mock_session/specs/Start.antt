-- A session at its start.
use Rattle.std.specs.Prelude.{ℕ, []}
use Rattle.promise.specs.Told.{Told, given, refused}
use Rattle.mock_base.specs.Flash.{flash_sectors}
use Rattle.mock_table.specs.declared.session.Session.{Session}
use Rattle.mock_table.specs.declared.session.CommandState.TheVariants as state
use Rattle.mock_effects.specs.Steps.{Step, keeps}
use Rattle.std.specs.declared.option.Option.TheVariants.{None}

-- no transaction, no reset
abbrev pub fresh_session : Session
fresh_session = record { current_command = state.None; last_reset = None }

-- 60 and 61 at the start over a lent flash, this order; "A refusal writes no lent buffer and changes no record"
unfoldable pub start_step_of : Told ℕ → Session → Step
start_step_of (refused number values) s = keeps s [] number values
start_step_of (given sectors) s = record { told = given tt; next = fresh_session; leaves = [] }

unfoldable pub start_step : Session → ℕ → Step
start_step s n = start_step_of (flash_sectors n) s
