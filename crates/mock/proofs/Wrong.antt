-- Programs that the contracts rule out, each at a named input: no proof can exist for them.
use Prim.Native.Nat.{ℕ, suc}
use mathlib.Core.Path.{◌≡◌, ap, sym, ◌∙◌}
use mathlib.Core.List.{List, [], ◌∷◌, ◌++◌}
use native.Mathlib.Omega.{arith}
use lib.ListN.{get_or, replicate}
use Rattle.promise.specs.Told.{refused, number, and_then}
use Rattle.promise.specs.Rules.{or_refuse}
use Rattle.promise.specs.Bytes.{low_first, high_first}
use Rattle.promise.specs.Over.{over}
use Rattle.protocol_codes.specs.Numbers.{reset_number, status_number}
use Rattle.protocol_status.specs.StatusBytes.{status_bytes}
use Rattle.protocol_bytes.specs.Signature.{same}
use Rattle.protocol_codes.specs.declared.ResetOpcode.TheVariants.{Reset, Maskrom}
use Rattle.protocol_codes.specs.declared.Status.TheVariants.{SUCCESS, FAILED}
use Rattle.protocol_codes.specs.declared.StorageIndex.TheVariants.{Emmc}
use Rattle.protocol.specs.CommandBytes.{command_bytes}
use Rattle.protocol.specs.Commands.{write_lba_command, switch_command}
use Rattle.mock_effects.proofs.Wrong as effects
use Rattle.protocol.specs.declared.CommandBlock.{CommandBlock}
use Rattle.mock_areas.specs.Slots.{fresh_areas, passes, first_at, held_at, place, area_found}
use Rattle.mock_areas.specs.Append.{held_by, append_rules, appended_at, append_step}
use Rattle.mock_areas.specs.declared.Stretch.{Stretch}
use Rattle.mock_base.specs.Flash.{flash_rules, flash_sectors, fits_in}
use Rattle.mock_base.specs.Told.{result_told}
use Rattle.mock_table.specs.Turn.{refuses, done, has_code, is_out, reply_size}
use Rattle.mock_table.specs.Ways.{stored_by, moved_by}
use Rattle.mock_table.specs.Table.{sector_turn, write_io_turn, write_row, status_turn, read_row}
use Rattle.mock_table.specs.declared.session.CommandState.{CommandState}
use Rattle.mock_table.specs.declared.session.CommandState.TheVariants.{None, IO, Status}
use Rattle.mock_base.specs.declared.cells.Variety.{Variety}
use Rattle.mock_base.specs.declared.cells.Variety.TheVariants.{First, Nor}
use Rattle.mock_base.specs.declared.config.MockDeviceConfig.{MockDeviceConfig}
use Rattle.mock_effects.specs.Effects.{programmed, cells_told, flash_after, pending_after, reply_bytes, buffer_after}
use Rattle.mock_effects.specs.Steps.{pend, failed, write_step_of, write_step_by, read_step_of, read_step_by}
use Rattle.mock.specs.Device.{session_of, MockMeets, CreateMeets, block_rules, create_told, created, fresh_state, write_bulk, read_bulk, is_upload, control_rules, write_control, maskrom_area}
use Rattle.mock.specs.declared.device.MockState.{MockState}
use Rattle.mock.specs.declared.device.MockStep.{MockStep}
use Rattle.std.specs.Prelude.{Option}
use Rattle.protocol_codes.specs.declared.ResetOpcode.{ResetOpcode}
use Rattle.std.specs.declared.option.Option.TheVariants as option

-- what is told by number
abbrev told : MockStep → ℕ
told r = number (result_told r.answer.result r.answer.signature)

-- the transaction: 0 none, 1 awaiting data, 2 awaiting status; the last reset: its opcode's number, 5 for none
abbrev state_number : CommandState → ℕ
state_number None = 0
state_number (IO c) = 1
state_number (Status c status) = 2

abbrev waits : MockState → ℕ
waits s = state_number s.current_command

abbrev reset_told : Option ResetOpcode → ℕ
reset_told option.None = 5
reset_told (option.Some opcode) = reset_number opcode

-- the variety, and the status that is pending, by number; 2 where none is
abbrev variety_number : Variety → ℕ
variety_number First = 0
variety_number Nor = 1

abbrev pending_number : CommandState → ℕ
pending_number None = 2
pending_number (IO c) = 2
pending_number (Status c status) = status_number status

-- where an area was found, 0 for not held
abbrev start_of : Option Stretch → ℕ
start_of option.None = 0
start_of (option.Some found) = found.start

-- a flash of one sector, a sector of ones, a store of 72 bytes, and a command that writes sector 0
abbrev flash : List ℕ
flash = replicate 512 0

abbrev ones : List ℕ
ones = replicate 512 1

abbrev store : List ℕ
store = replicate 72 0

abbrev command : CommandBlock
command = write_lba_command 1 0 1

-- a switch to another storage than 4
abbrev elsewhere : CommandBlock
elsewhere = switch_command 1 Emmc

module _ (config : MockDeviceConfig) where
  -- a device with a store of 72 bytes, whose second slot is held by area 5 with three bytes
  abbrev device : CommandState → Option ResetOpcode → MockState
  device state last =
      record { config = config; variety = First; areas = held_by fresh_areas 1 5 3; store_length = 72; last_reset = last; current_command = state }

  -- the same with NOR flash
  abbrev nor_device : CommandState → Option ResetOpcode → MockState
  nor_device state last =
      record { config = config; variety = Nor; areas = held_by fresh_areas 1 5 3; store_length = 72; last_reset = last; current_command = state }

  -- `MockState::new`: the flash measured for the store
  pub flash_measured_for_the_store : (r : MockStep) → r.state.store_length ≡ 512 → CreateMeets r (created First config 512 72) → ⊥
  unfolding created fresh_state
  flash_measured_for_the_store r e meets =
      let z : ◌≡◌ {A = ℕ} 512 72 = sym e ∙ ap (λ (s : MockState). s.store_length) meets.fresh in omega arith

  -- 60 not told
  pub flash_length_not_told : (r : MockStep) → told r ≡ 0 → CreateMeets r (created First config 513 72) → ⊥
  unfolding created create_told number and_then flash_sectors flash_rules or_refuse
  flash_length_not_told r e meets = let z : ◌≡◌ {A = ℕ} 0 60 = sym e ∙ ap number meets.tells.tells in omega arith

  -- a NOR head made
  pub made_nor : (r : MockStep) → r.state.variety ≡ Nor → CreateMeets r (created First config 512 72) → ⊥
  unfolding created fresh_state
  made_nor r e meets = let z : ◌≡◌ {A = ℕ} 1 0 = sym (ap variety_number e) ∙ ap (λ (s : MockState). variety_number s.variety) meets.fresh in omega arith

  -- `MockState::new_nor`: a head of the first variety made
  pub made_first : (r : MockStep) → r.state.variety ≡ First → CreateMeets r (created Nor config 512 72) → ⊥
  unfolding created fresh_state
  made_first r e meets = let z : ◌≡◌ {A = ℕ} 0 1 = sym (ap variety_number e) ∙ ap (λ (s : MockState). variety_number s.variety) meets.fresh in omega arith

  -- the block size told before the flash's length
  pub block_before_length : (r : MockStep) → told r ≡ 62 → CreateMeets r (created Nor config 513 72) → ⊥
  unfolding created create_told number and_then flash_sectors flash_rules or_refuse
  block_before_length r e meets = let z : ◌≡◌ {A = ℕ} 62 60 = sym e ∙ ap number meets.tells.tells in omega arith

  -- .. and before the number of its sectors
  pub block_before_sectors : (r : MockStep) → told r ≡ 62 → CreateMeets r (created Nor config 33554944 72) → ⊥
  unfolding created create_told number and_then flash_sectors flash_rules or_refuse
  block_before_sectors r e meets = let z : ◌≡◌ {A = ℕ} 62 61 = sym e ∙ ap number meets.tells.tells in omega arith

  module _ (zero : config.block_size_sectors ≡ 0) where
    told_62 : create_told Nor config.block_size_sectors 512 ≡ refused 62 []
    unfolding create_told block_rules and_then flash_sectors flash_rules or_refuse
    told_62 = ap (λ (n : ℕ). create_told Nor n 512) zero

    -- a block size of 0 taken
    pub zero_block_taken : (r : MockStep) → told r ≡ 0 → CreateMeets r (created Nor config 512 72) → ⊥
    unfolding created number
    zero_block_taken r e meets = let z : ◌≡◌ {A = ℕ} 0 62 = sym e ∙ ap number (meets.tells.tells ∙ told_62) in omega arith

    -- .. and refused by the first variety
    pub first_asks_for_blocks : (r : MockStep) → told r ≡ 62 → CreateMeets r (created First config 512 72) → ⊥
    unfolding created create_told block_rules number and_then flash_sectors flash_rules or_refuse
    first_asks_for_blocks r e meets = let z : ◌≡◌ {A = ℕ} 62 0 = sym e ∙ ap number meets.tells.tells in omega arith

  module _ (last : Option ResetOpcode) where
    -- `MockState::write_bulk`: a NOR head that stores as the first variety does
    pub stores_as_the_first : (r : MockStep) → MockMeets r ones (write_bulk (nor_device (IO command) last) flash ones) → ⊥
    unfolding write_bulk write_step_by write_step_of flash_sectors flash_rules or_refuse write_row write_io_turn sector_turn is_out has_code fits_in done moved_by stored_by flash_after programmed over
    stores_as_the_first r meets = let z : ◌≡◌ {A = ℕ} 1 0 = ap (λ (l : List ℕ). get_or l 0 0) meets.leaves in omega arith

    -- the success that applying nothing answers put over the FAILED of a switch to another storage
    pub switch_forgiven : (r : MockStep) (after : List ℕ) → r.state.current_command ≡ Status elsewhere SUCCESS
        → MockMeets r after (write_bulk (nor_device None last) flash (command_bytes elsewhere ++ replicate 7 0)) → ⊥
    unfolding write_bulk
    switch_forgiven r after e meets =
        effects.switch_forgiven last config.block_size_sectors (record { answer = r.answer; session = session_of r.state }) after
        (ap pending_number e) (record { tells = meets.tells; next = ap session_of meets.next; leaves = meets.leaves })

    -- 60 drops a status that is pending
    pub pending_dropped : (r : MockStep) (after : List ℕ) (n : ℕ) → waits r.state ≡ 0
        → MockMeets r after (read_bulk (nor_device (Status command FAILED) last) (replicate 513 0) (replicate 13 0)) → ⊥
    unfolding read_bulk read_step_by read_step_of flash_sectors flash_rules or_refuse
    pending_dropped r after n e meets = let z : ◌≡◌ {A = ℕ} 0 2 = sym e ∙ ap waits meets.next in omega arith

    -- FAILED kept from the record that is handed back
    pub failed_not_kept : (r : MockStep) (after : List ℕ) → r.state.current_command ≡ Status command SUCCESS
        → MockMeets r after (write_bulk (nor_device (IO command) last) flash ones) → ⊥
    unfolding write_bulk write_step_by write_step_of flash_sectors flash_rules or_refuse write_row write_io_turn sector_turn is_out has_code fits_in done moved_by stored_by pending_after cells_told programmed same pend failed
    failed_not_kept r after e meets =
        let z : ◌≡◌ {A = ℕ} 0 1 = sym (ap pending_number e) ∙ ap (λ (s : MockState). pending_number s.current_command) meets.next in omega arith

    -- `MockState::read_bulk`: success told where FAILED is pending
    pub failed_told_as_success : (r : MockStep) (after : List ℕ) → get_or after 12 0 ≡ 0
        → MockMeets r after (read_bulk (nor_device (Status command FAILED) last) flash (replicate 13 0)) → ⊥
    unfolding read_bulk read_step_by read_step_of flash_sectors flash_rules or_refuse read_row status_turn reply_size done buffer_after reply_bytes status_bytes low_first high_first
    failed_told_as_success r after e meets = let z : ◌≡◌ {A = ℕ} 0 1 = sym e ∙ ap (λ (l : List ℕ). get_or l 12 0) meets.leaves in omega arith

    -- `MockState::write_bulk`: nothing written
    pub write_does_nothing : (r : MockStep) → MockMeets r flash (write_bulk (device (IO command) last) flash ones) → ⊥
    unfolding write_bulk write_step_by write_step_of flash_sectors flash_rules or_refuse write_row write_io_turn sector_turn is_out has_code fits_in done moved_by stored_by flash_after over
    write_does_nothing r meets = let z : ◌≡◌ {A = ℕ} 0 1 = ap (λ (l : List ℕ). get_or l 0 0) meets.leaves in omega arith

    -- the transaction kept
    pub write_keeps_transaction : (r : MockStep) (after : List ℕ) → r.state ≡ device (Status command SUCCESS) last
        → MockMeets r after (write_bulk (device (Status command SUCCESS) last) flash ones) → ⊥
    unfolding write_bulk write_step_by write_step_of flash_sectors flash_rules or_refuse write_row refuses pending_after pend
    write_keeps_transaction r after e meets = let z : ◌≡◌ {A = ℕ} 2 0 = sym (ap waits e) ∙ ap waits meets.next in omega arith

    -- `MockState::read_bulk`: the transaction kept
    pub read_keeps_transaction : (r : MockStep) (after : List ℕ) → r.state ≡ device (Status command SUCCESS) last
        → MockMeets r after (read_bulk (device (Status command SUCCESS) last) flash []) → ⊥
    unfolding read_bulk read_step_by read_step_of flash_sectors flash_rules or_refuse read_row status_turn reply_size refuses
    read_keeps_transaction r after e meets = let z : ◌≡◌ {A = ℕ} 2 0 = sym (ap waits e) ∙ ap waits meets.next in omega arith

    -- `MockState::write_control`: another request type taken
    pub another_request_type : (r : MockStep) (after : List ℕ) → told r ≡ 0 → MockMeets r after (write_control (device None last) 0xC0 0xC 0 5 [] store) → ⊥
    unfolding number write_control control_rules is_upload or_refuse
    another_request_type r after e meets = let z : ◌≡◌ {A = ℕ} 0 51 = sym e ∙ ap number meets.tells.tells in omega arith

    -- 65 not told: a store of another length taken
    pub another_store_taken : (r : MockStep) (after : List ℕ) → told r ≡ 0 → MockMeets r after (write_control (device None last) 0x40 0xC 0 5 [] []) → ⊥
    unfolding number write_control control_rules or_refuse
    another_store_taken r after e meets = let z : ◌≡◌ {A = ℕ} 0 65 = sym e ∙ ap number meets.tells.tells in omega arith

    -- always refusing
    pub control_always_refusing : (r : MockStep) (after : List ℕ) (n : ℕ) → told r ≡ suc n
        → MockMeets r after (write_control (device None last) 0x40 0xC 0 5 (7 ∷ []) store) → ⊥
    unfolding number write_control control_rules is_upload or_refuse append_step append_rules appended_at place held_by fresh_areas held_at first_at passes
    control_always_refusing r after n e meets = let z : suc n ≡ 0 = sym e ∙ ap number meets.tells.tells in omega arith

    -- `MockState::maskrom_area`: one area for all
    pub one_area_for_all : (r : Option Stretch) → r ≡ maskrom_area (device None last) 5 → r ≡ maskrom_area (device None last) 6 → ⊥
    unfolding area_found held_by fresh_areas held_at first_at passes
    one_area_for_all r first second = let z : ◌≡◌ {A = ℕ} 9 0 = ap start_of (sym first ∙ second) in omega arith

    -- slots of another store: of 72 bytes the second slot starts at 9
    pub another_store : (n : ℕ) → option.Some (record { start = 0; length = n }) ≡ maskrom_area (device None last) 5 → ⊥
    unfolding area_found held_by fresh_areas held_at first_at passes
    another_store n e = let z : ◌≡◌ {A = ℕ} 0 9 = ap start_of e in omega arith

  -- `MockState::read_bulk`: the reset forgotten
  pub read_forgets_reset : (r : MockStep) (after : List ℕ) → r.state.last_reset ≡ option.None
      → MockMeets r after (read_bulk (device None (option.Some Maskrom)) flash []) → ⊥
  unfolding read_bulk read_step_by read_step_of flash_sectors flash_rules or_refuse read_row refuses
  read_forgets_reset r after e meets =
      let z : ◌≡◌ {A = ℕ} 5 3 = sym (ap reset_told e) ∙ ap (λ (s : MockState). reset_told s.last_reset) meets.next in omega arith

  -- `MockState::last_reset`: one fixed answer
  pub one_fixed_reset : (r : Option ResetOpcode) → r ≡ (device None option.None).last_reset → r ≡ (device None (option.Some Maskrom)).last_reset → ⊥
  one_fixed_reset r first second = let z : ◌≡◌ {A = ℕ} 5 3 = ap reset_told (sym first ∙ second) in omega arith

  -- another reset than the last
  pub another_reset : (r : Option ResetOpcode) → r ≡ option.Some Reset → r ≡ (device None (option.Some Maskrom)).last_reset → ⊥
  another_reset r first second = let z : ◌≡◌ {A = ℕ} 0 3 = ap reset_told (sym first ∙ second) in omega arith
