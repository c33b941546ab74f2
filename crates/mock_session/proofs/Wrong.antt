-- Programs that the contracts rule out, each at a named input: no proof can exist for them.
use Prim.Native.Nat.{ℕ, suc}
use mathlib.Core.Path.{◌≡◌, ap, sym, ◌∙◌}
use mathlib.Core.List.{List, []}
use native.Mathlib.Omega.{arith}
use lib.ListN.{get_or, replicate}
use Rattle.promise.specs.Rules.{or_refuse}
use Rattle.promise.specs.Bytes.{low_first, high_first}
use Rattle.promise.specs.Over.{over}
use Rattle.protocol_codes.specs.Numbers.{reset_number}
use Rattle.protocol_codes.specs.declared.ResetOpcode.TheVariants.{Maskrom}
use Rattle.protocol_codes.specs.declared.Status.TheVariants.{SUCCESS}
use Rattle.protocol.specs.Commands.{write_lba_command}
use Rattle.protocol.specs.declared.CommandBlock.{CommandBlock}
use Rattle.protocol_status.specs.StatusBytes.{status_bytes}
use Rattle.mock_base.specs.Flash.{flash_rules, flash_sectors, fits_in}
use Rattle.mock_base.specs.declared.error.MockAnswer.{MockAnswer}
use Rattle.mock_table.specs.Turn.{refuses, done, has_code, is_out, reply_size}
use Rattle.mock_table.specs.Ways.{stored_by, moved_by}
use Rattle.mock_table.specs.Table.{sector_turn, write_io_turn, write_row, status_turn, read_row}
use Rattle.mock_table.specs.declared.session.CommandState.{CommandState}
use Rattle.mock_table.specs.declared.session.CommandState.TheVariants.{None, IO, Status}
use Rattle.mock_table.specs.declared.session.Session.{Session}
use Rattle.mock_base.specs.declared.config.MockDeviceConfig.{MockDeviceConfig}
use Rattle.mock_effects.specs.Effects.{flash_after, pending_after, reply_bytes, buffer_after}
use Rattle.mock_effects.specs.Steps.{pend, write_step_of, write_step_by, write_step, read_step_of, read_step_by, read_step, StepMeets}
use Rattle.mock_effects.specs.declared.SessionStep.{SessionStep}
use Rattle.mock_session.specs.Start.{fresh_session, start_step_of, start_step}
use Rattle.mock_session.specs.Lent.{CallMeets}
use Rattle.std.specs.Prelude.{Option}
use Rattle.protocol_codes.specs.declared.ResetOpcode.{ResetOpcode}
use Rattle.std.specs.declared.option.Option.TheVariants as option

-- the transaction: 0 none, 1 awaiting data, 2 awaiting status; the last reset: its opcode's number, 5 for none
abbrev state_number : CommandState → ℕ
state_number None = 0
state_number (IO c) = 1
state_number (Status c status) = 2

abbrev waits : Session → ℕ
waits s = state_number s.current_command

abbrev reset_told : Option ResetOpcode → ℕ
reset_told option.None = 5
reset_told (option.Some opcode) = reset_number opcode

-- a flash of one sector, a sector of ones, and a command that writes sector 0
abbrev flash : List ℕ
flash = replicate 512 0

abbrev ones : List ℕ
ones = replicate 512 1

abbrev command : CommandBlock
command = write_lba_command 1 0 1

-- a session that awaits the command's data, and one that awaits its status, both after a reset
abbrev for_data : Session
for_data = record { current_command = IO command; last_reset = option.Some Maskrom }

abbrev for_status : Session
for_status = record { current_command = Status command SUCCESS; last_reset = option.Some Maskrom }

-- `fresh`: a reset at first
pub reset_at_first : (s : Session) → s.last_reset ≡ option.Some Maskrom → s ≡ fresh_session → ⊥
reset_at_first s e f = let z : ◌≡◌ {A = ℕ} 3 5 = sym (ap reset_told e) ∙ ap (λ (t : Session). reset_told t.last_reset) f in omega arith

-- a transaction at first
pub transaction_at_first : (s : Session) (n : ℕ) → waits s ≡ suc n → s ≡ fresh_session → ⊥
transaction_at_first s n e f = let z : suc n ≡ 0 = sym e ∙ ap waits f in omega arith

-- `start_step`: a start that is refused its flash forgets the record
pub refused_start_forgets : (r : SessionStep) → r.session ≡ fresh_session → StepMeets r [] (start_step for_status 513) → ⊥
unfolding start_step start_step_of flash_sectors flash_rules or_refuse
refused_start_forgets r e meets = let z : ◌≡◌ {A = ℕ} 0 2 = sym (ap waits e) ∙ ap waits meets.next in omega arith

-- a start that keeps the record
pub start_keeps_the_record : (r : SessionStep) → r.session ≡ for_status → StepMeets r [] (start_step for_status 512) → ⊥
unfolding start_step start_step_of flash_sectors flash_rules or_refuse
start_keeps_the_record r e meets = let z : ◌≡◌ {A = ℕ} 2 0 = sym (ap waits e) ∙ ap waits meets.next in omega arith

-- `start`: the same of the record behind the reference
pub refused_start_forgets_lent : (r : MockAnswer) → CallMeets r fresh_session [] (start_step for_status 513) → ⊥
unfolding start_step start_step_of flash_sectors flash_rules or_refuse
refused_start_forgets_lent r meets = let z : ◌≡◌ {A = ℕ} 0 2 = ap waits meets.next in omega arith

pub start_changes_nothing : (r : MockAnswer) → CallMeets r for_status [] (start_step for_status 512) → ⊥
unfolding start_step start_step_of flash_sectors flash_rules or_refuse
start_changes_nothing r meets = let z : ◌≡◌ {A = ℕ} 2 0 = ap waits meets.next in omega arith

-- `write_bulk`: the record behind the reference left as it was
pub write_keeps_the_record : (r : MockAnswer) (after : List ℕ) → CallMeets r for_status after (write_step for_status flash ones) → ⊥
unfolding write_step_by write_step_of flash_sectors flash_rules or_refuse write_row refuses pending_after pend
write_keeps_the_record r after meets = let z : ◌≡◌ {A = ℕ} 2 0 = ap waits meets.next in omega arith

-- the flash left as it was
pub write_leaves_the_flash : (r : MockAnswer) (s : Session) → CallMeets r s flash (write_step for_data flash ones) → ⊥
unfolding write_step_by write_step_of flash_sectors flash_rules or_refuse write_row write_io_turn sector_turn is_out has_code fits_in done moved_by stored_by flash_after over
write_leaves_the_flash r s meets = let z : ◌≡◌ {A = ℕ} 0 1 = ap (λ (l : List ℕ). get_or l 0 0) meets.leaves in omega arith

module _ (config : MockDeviceConfig) where
  -- `read_bulk`: the record behind the reference left as it was
  pub read_keeps_the_record : (r : MockAnswer) (after : List ℕ) → CallMeets r for_status after (read_step for_status config flash []) → ⊥
  unfolding read_step_by read_step_of flash_sectors flash_rules or_refuse read_row status_turn reply_size refuses
  read_keeps_the_record r after meets = let z : ◌≡◌ {A = ℕ} 2 0 = ap waits meets.next in omega arith

  -- the buffer of a status left as it was
  pub read_fills_nothing : (r : MockAnswer) (s : Session) → CallMeets r s (replicate 13 0) (read_step for_status config flash (replicate 13 0)) → ⊥
  unfolding read_step_by read_step_of flash_sectors flash_rules or_refuse read_row status_turn reply_size done buffer_after reply_bytes status_bytes low_first high_first
  read_fills_nothing r s meets = let z : ◌≡◌ {A = ℕ} 0 0x55 = ap (λ (l : List ℕ). get_or l 0 0) meets.leaves in omega arith

-- `look`: a fresh record whatever is lent
pub look_at_a_fresh_one : (r : Session) → r ≡ fresh_session → r ≡ for_status → ⊥
look_at_a_fresh_one r e f = let z : ◌≡◌ {A = ℕ} 0 2 = sym (ap waits e) ∙ ap waits f in omega arith

-- the record without its reset
pub look_without_the_reset : (r : Session) → r.last_reset ≡ option.None → r ≡ for_status → ⊥
look_without_the_reset r e f = let z : ◌≡◌ {A = ℕ} 5 3 = sym (ap reset_told e) ∙ ap (λ (t : Session). reset_told t.last_reset) f in omega arith
