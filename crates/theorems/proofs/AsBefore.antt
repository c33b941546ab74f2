-- The first variety is the stand-in as it stood before there was a second: every turn of the table and every bulk call, at every input; of reads at
-- every record that there was then, which is one with no FAILED status pending.
use Prim.Native.Nat.{ℕ}
use mathlib.Core.Path.{◌≡◌, refl, ap, ap₂, sym, subst, ◌∙◌}
use mathlib.Core.Bool.{not}
use mathlib.Core.List.{List, [], ◌∷◌}
use lib.Dec.{eqb}
use lib.ListN.{length}
use Rattle.promise.specs.Told.{Told, given, refused, and_then}
use Rattle.promise.specs.Rules.{pick, rule, or_refuse}
use Rattle.promise.proofs.Outcome.{by_test, either_way}
use Rattle.protocol_codes.specs.Numbers.{code_number}
use Rattle.protocol_codes.specs.Reading.{reset_of}
use Rattle.protocol_codes.specs.declared.ResetOpcode.{ResetOpcode}
use Rattle.protocol_codes.specs.declared.CommandCode.TheVariants.{ReadFlashId, ReadFlashInfo, ReadChipInfo, ReadCapability, ReadLBA, DeviceReset}
use Rattle.protocol_codes.specs.declared.Status as status
use Rattle.protocol.specs.CommandBytes.{read_command}
use Rattle.protocol.specs.declared.CommandBlock.{CommandBlock}
use Rattle.mock_base.specs.Flash.{flash_sectors}
use Rattle.mock_base.specs.declared.cells.Variety.{Variety}
use Rattle.mock_base.specs.declared.cells.Variety.TheVariants.{First}
use Rattle.mock_base.specs.declared.config.MockDeviceConfig.{MockDeviceConfig}
use Rattle.mock_table.specs.Turn.{Turn, refuses, done, has_code, is_erase, is_in, Quiet}
use Rattle.mock_table.specs.Ways.{stored_by, moved_by, splits, switches, tells_storage}
use Rattle.mock_table.specs.Table.{sector_turn, stored_reset, erase_rules, erase_turn, zero_length_turn, start_turn, write_io_turn, write_row, write_turn, reply_turn, code_turn, read_io_turn, status_turn, read_row}
use Rattle.mock_table.specs.declared.session.CommandState.{CommandState}
use Rattle.mock_table.specs.declared.session.CommandState.TheVariants.{None, IO, Status}
use Rattle.mock_table.specs.declared.session.Session.{Session}
use Rattle.mock_table.specs.declared.outcome.Effect.{Effect}
use Rattle.mock_table.specs.declared.outcome.Effect.TheVariants.{Nothing, Fill, Store, Program, Supply, Reply}
use Rattle.mock_table.proofs.FirstVariety.{NoProgram, write_first}
use Rattle.mock_effects.specs.Effects.{flash_after, reply_bytes, buffer_after}
use Rattle.mock_effects.specs.Steps.{Step, pend, pended, write_step_of, write_step_by, read_step_of, read_step_by}
use Rattle.mock_effects.proofs.Frames.{settled}
use Rattle.mock.proofs.Reached.{write_quiet, read_quiet}
use Rattle.mock.specs.Device.{session_of, bulk, block_rules, create_told, created, write_bulk, read_bulk}
use Rattle.mock.specs.declared.device.MockState.{MockState}
use Rattle.theorems.specs.Before as before
use Rattle.theorems.specs.Before.{AsThen}
use Rattle.std.specs.Prelude.{Option}

-- THE TABLE

reset_as : (t : Told ResetOpcode) (last : Option ResetOpcode) (c : CommandBlock) → stored_reset t last c ≡ before.stored_reset t last c
unfolding stored_reset before.stored_reset
reset_as (given opcode) last c = refl
reset_as (refused number values) last c = refl

module _ (last : Option ResetOpcode) (sectors : ℕ) where
  zero_length_as : (block : ℕ) (c : CommandBlock) → zero_length_turn First block last c sectors ≡ before.zero_length_turn last c sectors
  unfolding zero_length_turn before.zero_length_turn erase_turn erase_rules or_refuse splits switches
  zero_length_as block c =
      ap (λ (x : Turn). pick (is_erase c) (erase_turn First block last c sectors) (pick (has_code c DeviceReset) x (refuses last 53 (code_number c.cd_code ∷ []))))
      (reset_as (reset_of c.cd_opcode) last c)

  start_as : (block : ℕ) (t : Told CommandBlock) → start_turn First block t last sectors ≡ before.start_turn t last sectors
  unfolding start_turn before.start_turn
  start_as block (given c) = ap (λ (x : Turn). pick (eqb c.transfer_length 0) x (done (IO c) last Nothing)) (zero_length_as block c)
  start_as block (refused number values) = refl

  pub write_row_as : (block : ℕ) (state : CommandState) (bytes : List ℕ) → write_row First block state last sectors bytes ≡ before.write_row state last sectors bytes
  unfolding write_row before.write_row write_io_turn before.write_io_turn sector_turn before.sector_turn moved_by stored_by before.moved_by or_refuse
  write_row_as block None bytes = start_as block (read_command bytes)
  write_row_as block (IO c) bytes = refl
  write_row_as block (Status c status) bytes = refl

  -- a record of then has no other status pending than success
  pub read_row_as : (state : CommandState) (room : ℕ) → Quiet state → read_row First state last sectors room ≡ before.read_row state last sectors room
  unfolding read_row before.read_row read_io_turn before.read_io_turn code_turn before.code_turn reply_turn before.reply_turn sector_turn before.sector_turn moved_by before.moved_by tells_storage status_turn before.status_turn Quiet
  read_row_as None room quiet = refl
  read_row_as (IO c) room quiet = refl
  read_row_as (Status c pending) room quiet = ap (λ (x : status.Status). status_turn last c x room) quiet

-- THE EFFECTS

flash_as : (effect : Effect) (bytes flash : List ℕ) → NoProgram effect → flash_after effect bytes flash ≡ before.flash_after effect bytes flash
unfolding flash_after before.flash_after NoProgram
flash_as Nothing bytes flash h = refl
flash_as (Fill range) bytes flash h = refl
flash_as (Store range) bytes flash h = refl
flash_as (Program range) bytes flash h = absurd h
flash_as (Supply range) bytes flash h = refl
flash_as (Reply kind) bytes flash h = refl

module _ (config : MockDeviceConfig) (flash buffer : List ℕ) (last : Option ResetOpcode) (sectors room : ℕ) where
  abbrev Fills : Turn → Type 0
  Fills t = buffer_after config t.effect flash buffer ≡ before.buffer_after config t.effect flash buffer

  refuses_fills : (number : ℕ) (values : List ℕ) → Fills (refuses last number values)
  unfolding refuses buffer_after before.buffer_after
  refuses_fills number values = refl

  row_fills : (state : CommandState) → Fills (before.read_row state last sectors room)
  unfolding before.read_row before.read_io_turn before.code_turn before.reply_turn before.sector_turn before.moved_by before.status_turn done buffer_after before.buffer_after reply_bytes before.reply_bytes
  row_fills None = refuses_fills 54 []
  row_fills (IO c) =
      either_way Fills (refuses last) (rule (not (is_in c.flags)) 54 [] ∷ []) _ refuses_fills
      (λ met. by_test Fills (has_code c ReadFlashId) (λ e. either_way Fills (refuses last) _ _ refuses_fills (λ m. refl))
      (λ e. by_test Fills (has_code c ReadFlashInfo) (λ f. either_way Fills (refuses last) _ _ refuses_fills (λ m. refl))
      (λ f. by_test Fills (has_code c ReadChipInfo) (λ g. either_way Fills (refuses last) _ _ refuses_fills (λ m. refl))
      (λ g. by_test Fills (has_code c ReadCapability) (λ h. either_way Fills (refuses last) _ _ refuses_fills (λ m. refl))
      (λ h. by_test Fills (has_code c ReadLBA) (λ k. either_way Fills (refuses last) _ _ refuses_fills (λ m. refl)) (λ k. refuses_fills 54 []))))))
  row_fills (Status c status) = either_way Fills (refuses last) _ _ refuses_fills (λ m. refl)

-- THE CALLS, lent anything

write_step_as : (t : Told ℕ) (block : ℕ) (s : Session) (flash bytes : List ℕ) → write_step_of t First block s flash bytes ≡ before.write_step_of t s flash bytes
unfolding write_step_of before.write_step_of pend
write_step_as (refused number values) block s flash bytes = refl
write_step_as (given sectors) block s flash bytes =
    let now = write_turn First block s sectors bytes in
    let own = (write_first block s.last_reset sectors bytes s.current_command).stores in
    let of : Turn → Step = λ t. record { told = t.told; next = t.next; leaves = before.flash_after t.effect bytes flash } in
    ap₂ (λ (p : status.Status) (l : List ℕ). record { told = now.told; next = pended p now.next; leaves = l }) (settled now.effect bytes flash own) (flash_as now.effect bytes flash own)
    ∙ ap of (write_row_as s.last_reset sectors block s.current_command bytes)

read_step_as : (t : Told ℕ) (s : Session) (config : MockDeviceConfig) (flash buffer : List ℕ) → Quiet s.current_command
    → read_step_of t First s config flash buffer ≡ before.read_step_of t s config flash buffer
unfolding read_step_of before.read_step_of
read_step_as (refused number values) s config flash buffer quiet = refl
read_step_as (given sectors) s config flash buffer quiet =
    let room = length buffer in
    let of : Turn → Step = λ t. record { told = t.told; next = t.next; leaves = buffer_after config t.effect flash buffer } in
    let then = before.read_turn s sectors room in
    ap of (read_row_as s.last_reset sectors s.current_command room quiet)
    ∙ ap (λ (l : List ℕ). record { told = then.told; next = then.next; leaves = l }) (row_fills config flash buffer s.last_reset sectors room s.current_command)

-- AS BEFORE. A bulk write at a device of the first variety is that of then, whatever its record holds; so is a bulk read where no FAILED status is
-- pending
pub write_as_before : (s : MockState) (flash bytes : List ℕ) → s.variety ≡ First → write_bulk s flash bytes ≡ before.write_bulk s flash bytes
unfolding write_bulk before.write_bulk write_step_by before.write_step
write_as_before s flash bytes own =
    ap (λ (v : Variety). bulk s (write_step_of (flash_sectors (length flash)) v s.config.block_size_sectors (session_of s) flash bytes)) own
    ∙ ap (bulk s) (write_step_as (flash_sectors (length flash)) s.config.block_size_sectors (session_of s) flash bytes)

pub read_as_before : (s : MockState) (flash buffer : List ℕ) → s.variety ≡ First → Quiet s.current_command → read_bulk s flash buffer ≡ before.read_bulk s flash buffer
unfolding read_bulk before.read_bulk read_step_by before.read_step
read_as_before s flash buffer own quiet =
    ap (λ (v : Variety). bulk s (read_step_of (flash_sectors (length flash)) v (session_of s) s.config flash buffer)) own
    ∙ ap (bulk s) (read_step_as (flash_sectors (length flash)) (session_of s) s.config flash buffer quiet)

-- .. the steps over a session alone, and the creation
pub write_step_as_before : (block : ℕ) (s : Session) (flash bytes : List ℕ) → write_step_by First block s flash bytes ≡ before.write_step s flash bytes
unfolding write_step_by before.write_step
write_step_as_before block s flash bytes = write_step_as (flash_sectors (length flash)) block s flash bytes

pub read_step_as_before : (s : Session) (config : MockDeviceConfig) (flash buffer : List ℕ) → Quiet s.current_command → read_step_by First s config flash buffer ≡ before.read_step s config flash buffer
unfolding read_step_by before.read_step
read_step_as_before s config flash buffer quiet = read_step_as (flash_sectors (length flash)) s config flash buffer quiet

pub created_as_before : (config : MockDeviceConfig) (flash store : ℕ) → (created First config flash store).told ≡ and_then (flash_sectors flash) (λ sectors. given tt)
unfolding created create_told block_rules or_refuse
created_as_before config flash store = refl

-- every call keeps a device as those of then
pub write_as_then : (s : MockState) (flash bytes : List ℕ) → AsThen s → AsThen (write_bulk s flash bytes).next
unfolding write_bulk write_step_by
write_as_then s flash bytes then =
    let block = s.config.block_size_sectors in
    record {
      own = then.own;
      quiet = subst (λ (v : Variety). Quiet (write_step_of (flash_sectors (length flash)) v block (session_of s) flash bytes).next.current_command) (sym then.own)
          (write_quiet (flash_sectors (length flash)) block (session_of s) flash bytes then.quiet);
    }

pub read_as_then : (s : MockState) (flash buffer : List ℕ) → AsThen s → AsThen (read_bulk s flash buffer).next
unfolding read_bulk read_step_by
read_as_then s flash buffer then =
    record {
      own = then.own;
      quiet = subst (λ (v : Variety). Quiet (read_step_of (flash_sectors (length flash)) v (session_of s) s.config flash buffer).next.current_command) (sym then.own)
          (read_quiet (flash_sectors (length flash)) (session_of s) s.config flash buffer then.quiet);
    }
