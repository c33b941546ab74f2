-- Programs that the contracts rule out, each at a named input: no proof can exist for them.
use Prim.Native.Nat.{ℕ, suc}
use mathlib.Core.Path.{◌≡◌, ap, sym, subst, ◌∙◌}
use mathlib.Core.List.{List, [], ◌++◌}
use native.Mathlib.Omega.{arith}
use lib.ListN.{get_or, replicate}
use Rattle.promise.specs.Told.{Told, number}
use Rattle.promise.specs.Rules.{or_refuse}
use Rattle.promise.specs.Bytes.{low_first, high_first}
use Rattle.promise.specs.Over.{over}
use Rattle.protocol_bytes.specs.Signature.{same}
use Rattle.protocol_codes.specs.Numbers.{status_number}
use Rattle.protocol_codes.specs.declared.Status.TheVariants.{SUCCESS, FAILED}
use Rattle.protocol_codes.specs.declared.StorageIndex.TheVariants.{Emmc}
use Rattle.protocol.specs.CommandBytes.{command_bytes}
use Rattle.protocol.specs.Commands.{write_lba_command, switch_command}
use Rattle.protocol.proofs.Trips.{reads_back}
use Rattle.protocol.specs.declared.CommandBlock.{CommandBlock}
use Rattle.protocol_status.specs.StatusBytes.{status_bytes}
use Rattle.mock_base.specs.Flash.{flash_rules, flash_sectors, fits_in}
use Rattle.mock_base.specs.Told.{result_told}
use Rattle.mock_table.specs.Turn.{session, refuses, done, has_code, is_erase, is_out, reply_size}
use Rattle.mock_table.specs.Ways.{stored_by, moved_by, switches, switched}
use Rattle.mock_table.specs.Table.{sector_turn, zero_length_turn, start_turn, write_io_turn, write_row, status_turn, read_row}
use Rattle.mock_table.specs.declared.session.CommandState.{CommandState}
use Rattle.mock_table.specs.declared.session.CommandState.TheVariants.{None, IO, Status}
use Rattle.mock_table.specs.declared.session.Session.{Session}
use Rattle.mock_base.specs.declared.cells.Variety.{Variety}
use Rattle.mock_base.specs.declared.cells.Variety.TheVariants.{Nor}
use Rattle.mock_base.specs.declared.config.MockDeviceConfig.{MockDeviceConfig}
use Rattle.mock_effects.specs.Effects.{programmed, cells_told, flash_after, pending_after, reply_bytes, buffer_after}
use Rattle.mock_effects.specs.Steps.{Step, failed, pend, pended, write_step_of, write_step_by, write_step, read_step_of, read_step_by, read_step, StepMeets}
use Rattle.mock_effects.specs.declared.SessionStep.{SessionStep}
use Rattle.std.specs.Prelude.{Option}
use Rattle.protocol_codes.specs.declared.ResetOpcode.{ResetOpcode}

-- what is told by number, and the transaction: 0 none, 1 awaiting data, 2 awaiting status
abbrev told : SessionStep → ℕ
told r = number (result_told r.answer.result r.answer.signature)

abbrev state_number : CommandState → ℕ
state_number None = 0
state_number (IO c) = 1
state_number (Status c status) = 2

abbrev waits : Session → ℕ
waits s = state_number s.current_command

-- a flash of one sector, a sector of ones, and a command that writes sector 0
abbrev flash : List ℕ
flash = replicate 512 0

abbrev ones : List ℕ
ones = replicate 512 1

abbrev command : CommandBlock
command = write_lba_command 1 0 1

module _ (last : Option ResetOpcode) where
  -- `write_step`: every range refused
  pub write_always_refusing : (r : SessionStep) (after : List ℕ) (n : ℕ) → told r ≡ suc n
      → StepMeets r after (write_step (session (IO command) last) flash ones) → ⊥
  unfolding number or_refuse write_step_by write_step_of flash_sectors flash_rules write_row write_io_turn sector_turn is_out has_code fits_in done
  write_always_refusing r after n e meets = let z : suc n ≡ 0 = sym e ∙ ap number meets.tells.tells in omega arith

  -- nothing written
  pub write_does_nothing : (r : SessionStep) → StepMeets r flash (write_step (session (IO command) last) flash ones) → ⊥
  unfolding or_refuse write_step_by write_step_of flash_sectors flash_rules write_row write_io_turn sector_turn is_out has_code fits_in done moved_by stored_by flash_after over
  write_does_nothing r meets = let z : ◌≡◌ {A = ℕ} 0 1 = ap (λ (l : List ℕ). get_or l 0 0) meets.leaves in omega arith

  -- the transaction kept by a write that is refused
  pub write_keeps_transaction : (r : SessionStep) (after : List ℕ) → r.session ≡ session (Status command SUCCESS) last
      → StepMeets r after (write_step (session (Status command SUCCESS) last) flash ones) → ⊥
  unfolding or_refuse write_step_by write_step_of flash_sectors flash_rules write_row refuses pending_after pend
  write_keeps_transaction r after e meets = let z : ◌≡◌ {A = ℕ} 2 0 = sym (ap waits e) ∙ ap waits meets.next in omega arith

  module _ (config : MockDeviceConfig) where
    -- `read_step`: the transaction kept by a read in none of the sizes that it takes
    pub read_keeps_transaction : (r : SessionStep) (after : List ℕ) → r.session ≡ session (Status command SUCCESS) last
        → StepMeets r after (read_step (session (Status command SUCCESS) last) config flash []) → ⊥
    unfolding or_refuse read_step_by read_step_of flash_sectors flash_rules read_row status_turn reply_size refuses
    read_keeps_transaction r after e meets = let z : ◌≡◌ {A = ℕ} 2 0 = sym (ap waits e) ∙ ap waits meets.next in omega arith

    -- nothing given: the status of a command leaves its buffer as it was
    pub read_does_nothing : (r : SessionStep) → StepMeets r (replicate 13 0) (read_step (session (Status command SUCCESS) last) config flash (replicate 13 0)) → ⊥
    unfolding or_refuse read_step_by read_step_of flash_sectors flash_rules read_row status_turn reply_size done buffer_after reply_bytes status_bytes low_first high_first
    read_does_nothing r meets = let z : ◌≡◌ {A = ℕ} 0 0x55 = ap (λ (l : List ℕ). get_or l 0 0) meets.leaves in omega arith

    -- a residue of one, little-endian behind signature and tag
    pub residue_of_one : (r : SessionStep) (after : List ℕ) → get_or after 8 0 ≡ 1
        → StepMeets r after (read_step (session (Status command SUCCESS) last) config flash (replicate 13 0)) → ⊥
    unfolding or_refuse read_step_by read_step_of flash_sectors flash_rules read_row status_turn reply_size done buffer_after reply_bytes status_bytes low_first high_first
    residue_of_one r after e meets = let z : ◌≡◌ {A = ℕ} 1 0 = sym e ∙ ap (λ (l : List ℕ). get_or l 8 0) meets.leaves in omega arith

-- NOR, of one sector of 0x0F in each byte: what is left of 0xF3 is 0x03, and the status is FAILED; all of 0x03 is taken

abbrev low : List ℕ
low = replicate 512 0x0F

abbrev crossing : List ℕ
crossing = replicate 512 0xF3

abbrev clearing : List ℕ
clearing = replicate 512 0x03

-- a switch to another storage than 4, and the call that begins by what was read
abbrev elsewhere : CommandBlock
elsewhere = switch_command 1 Emmc

abbrev block_of : CommandBlock → List ℕ
block_of c = command_bytes c ++ replicate 7 0

abbrev started_by : ℕ → Option ResetOpcode → Told CommandBlock → Step
started_by block last t =
    record {
      told = (start_turn Nor block t last 1).told;
      next = pended (pending_after (start_turn Nor block t last 1).effect (block_of elsewhere) flash) (start_turn Nor block t last 1).next;
      leaves = flash_after (start_turn Nor block t last 1).effect (block_of elsewhere) flash;
    }

-- the status that is pending, by number; 2 where none is
abbrev pending_number : CommandState → ℕ
pending_number None = 2
pending_number (IO c) = 2
pending_number (Status c status) = status_number status

abbrev pends : SessionStep → ℕ
pends r = pending_number r.session.current_command

module _ (last : Option ResetOpcode) (block : ℕ) where
  -- `write_step_by`: OR for AND
  pub or_for_and : (r : SessionStep) (after : List ℕ) → get_or after 0 0 ≡ 0xFF → StepMeets r after (write_step_by Nor block (session (IO command) last) low crossing) → ⊥
  unfolding or_refuse write_step_by write_step_of flash_sectors flash_rules write_row write_io_turn sector_turn is_out has_code fits_in done moved_by stored_by flash_after programmed over
  or_for_and r after e meets = let z : ◌≡◌ {A = ℕ} 0xFF 0x03 = sym e ∙ ap (λ (l : List ℕ). get_or l 0 0) meets.leaves in omega arith

  -- the bytes stored as asked, as the first variety does
  pub stored_as_asked : (r : SessionStep) → StepMeets r crossing (write_step_by Nor block (session (IO command) last) low crossing) → ⊥
  unfolding or_refuse write_step_by write_step_of flash_sectors flash_rules write_row write_io_turn sector_turn is_out has_code fits_in done moved_by stored_by flash_after programmed over
  stored_as_asked r meets = let z : ◌≡◌ {A = ℕ} 0xF3 0x03 = ap (λ (l : List ℕ). get_or l 0 0) meets.leaves in omega arith

  -- FAILED with the flash left as it was
  pub failed_and_left : (r : SessionStep) → StepMeets r low (write_step_by Nor block (session (IO command) last) low crossing) → ⊥
  unfolding or_refuse write_step_by write_step_of flash_sectors flash_rules write_row write_io_turn sector_turn is_out has_code fits_in done moved_by stored_by flash_after programmed over
  failed_and_left r meets = let z : ◌≡◌ {A = ℕ} 0x0F 0x03 = ap (λ (l : List ℕ). get_or l 0 0) meets.leaves in omega arith

  -- success always
  pub success_always : (r : SessionStep) (after : List ℕ) → pends r ≡ 0 → StepMeets r after (write_step_by Nor block (session (IO command) last) low crossing) → ⊥
  unfolding or_refuse write_step_by write_step_of flash_sectors flash_rules write_row write_io_turn sector_turn is_out has_code fits_in done moved_by stored_by pending_after cells_told programmed same pend failed
  success_always r after e meets =
      let z : ◌≡◌ {A = ℕ} 0 1 = sym e ∙ ap (λ (s : Session). pending_number s.current_command) meets.next in omega arith

  -- FAILED always
  pub failed_always : (r : SessionStep) (after : List ℕ) → pends r ≡ 1 → StepMeets r after (write_step_by Nor block (session (IO command) last) low clearing) → ⊥
  unfolding or_refuse write_step_by write_step_of flash_sectors flash_rules write_row write_io_turn sector_turn is_out has_code fits_in done moved_by stored_by pending_after cells_told programmed same pend failed
  failed_always r after e meets =
      let z : ◌≡◌ {A = ℕ} 1 0 = sym e ∙ ap (λ (s : Session). pending_number s.current_command) meets.next in omega arith

  -- the cells' refusal told by the call itself
  pub refused_by_the_cells : (r : SessionStep) (after : List ℕ) (n : ℕ) → told r ≡ suc n → StepMeets r after (write_step_by Nor block (session (IO command) last) low crossing) → ⊥
  unfolding number or_refuse write_step_by write_step_of flash_sectors flash_rules write_row write_io_turn sector_turn is_out has_code fits_in done
  refused_by_the_cells r after n e meets = let z : suc n ≡ 0 = sym e ∙ ap number meets.tells.tells in omega arith

  module _ (v : Variety) (config : MockDeviceConfig) where
    -- `read_step_by`: success told where FAILED is pending, so that it would come a call late
    pub failed_told_late : (r : SessionStep) (after : List ℕ) → get_or after 12 0 ≡ 0
        → StepMeets r after (read_step_by v (session (Status command FAILED) last) config flash (replicate 13 0)) → ⊥
    unfolding or_refuse read_step_by read_step_of flash_sectors flash_rules read_row status_turn reply_size done buffer_after reply_bytes status_bytes low_first high_first
    failed_told_late r after e meets = let z : ◌≡◌ {A = ℕ} 0 1 = sym e ∙ ap (λ (l : List ℕ). get_or l 12 0) meets.leaves in omega arith

    -- FAILED kept for the next command: the transaction stays, with its status, once that was read
    pub failed_kept : (r : SessionStep) (after : List ℕ) (n : ℕ) → waits r.session ≡ suc n
        → StepMeets r after (read_step_by v (session (Status command FAILED) last) config flash (replicate 13 0)) → ⊥
    unfolding or_refuse read_step_by read_step_of flash_sectors flash_rules read_row status_turn reply_size done
    failed_kept r after n e meets = let z : suc n ≡ 0 = sym e ∙ ap waits meets.next in omega arith

  -- `write_step_by`: the success that applying nothing answers put over the FAILED of a switch to another storage
  pub switch_forgiven : (r : SessionStep) (after : List ℕ) → pends r ≡ 0 → StepMeets r after (write_step_by Nor block (session None last) flash (block_of elsewhere)) → ⊥
  unfolding write_step_by write_step_of flash_sectors flash_rules or_refuse write_row start_turn zero_length_turn is_erase has_code switches switched done pending_after pend
  switch_forgiven r after e meets =
      let read = reads_back elsewhere (replicate 7 0) (record { tag = omega arith; transfer = omega arith; address = omega arith; count = omega arith }) (omega arith) in
      let m = subst (λ (t : Told CommandBlock). StepMeets r after (started_by block last t)) read meets in
      let z : ◌≡◌ {A = ℕ} 0 1 = sym e ∙ ap (λ (s : Session). pending_number s.current_command) m.next in omega arith

  -- `read_step_by`: a residue beside FAILED
  pub residue_beside_failed : (v : Variety) (config : MockDeviceConfig) (r : SessionStep) (after : List ℕ) → get_or after 8 0 ≡ 1
      → StepMeets r after (read_step_by v (session (Status command FAILED) last) config flash (replicate 13 0)) → ⊥
  unfolding or_refuse read_step_by read_step_of flash_sectors flash_rules read_row status_turn reply_size done buffer_after reply_bytes status_bytes low_first high_first
  residue_beside_failed v config r after e meets = let z : ◌≡◌ {A = ℕ} 1 0 = sym e ∙ ap (λ (l : List ℕ). get_or l 8 0) meets.leaves in omega arith
