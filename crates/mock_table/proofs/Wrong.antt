-- Programs that the contracts rule out, each at a named input: no proof can exist for them.
use Prim.Native.Nat.{ℕ, suc, ◌<◌, ◌^◌}
use mathlib.Core.Path.{◌≡◌, ap, sym, subst, ◌∙◌}
use mathlib.Core.List.{List, ◌++◌}
use native.Mathlib.Omega.{arith}
use lib.ListN.{replicate}
use Rattle.promise.specs.Told.{Told, given, number}
use Rattle.promise.specs.Rules.{or_refuse}
use Rattle.protocol_codes.specs.declared.Direction.TheVariants.{In}
use Rattle.protocol_codes.specs.Numbers.{status_number}
use Rattle.protocol_codes.specs.declared.CommandCode.TheVariants.{WriteLBA}
use Rattle.protocol_codes.specs.declared.StorageIndex.TheVariants.{SpiNor, Emmc}
use Rattle.protocol_codes.specs.declared.Status as pending
use Rattle.protocol_codes.specs.declared.Status.TheVariants.{SUCCESS, FAILED}
use Rattle.protocol.specs.Commands.{sector_command, write_lba_command, chip_info_command, erase_lba_command, erase_force_command, storage_command, switch_command}
use Rattle.protocol.specs.CommandBytes.{command_bytes, BlockFits}
use Rattle.protocol.specs.declared.CommandBlock.{CommandBlock}
use Rattle.protocol.proofs.Trips.{reads_back}
use Rattle.mock_base.specs.Flash.{fits_in}
use Rattle.mock_base.specs.Told.{result_told}
use Rattle.mock_base.specs.declared.cells.Variety.{Variety}
use Rattle.mock_base.specs.declared.cells.Variety.TheVariants.{First, Nor}
use Rattle.mock_table.specs.Turn.{session, refuses, done, has_code, is_erase, is_in, is_out, reply_size, OutcomeMeets}
use Rattle.mock_table.specs.Ways.{is_multiple, splits, switches, switched, tells_storage}
use Rattle.mock_table.specs.Table.{sector_turn, erase_rules, erase_turn, zero_length_turn, start_turn, write_io_turn, write_row, write_turn, reply_turn, code_turn, read_io_turn, status_turn, read_row, read_turn}
use Rattle.mock_table.specs.declared.session.CommandState.{CommandState}
use Rattle.mock_table.specs.declared.session.CommandState.TheVariants.{None, IO, Status}
use Rattle.mock_table.specs.declared.session.Session.{Session}
use Rattle.mock_table.specs.declared.outcome.Effect.{Effect}
use Rattle.mock_table.specs.declared.outcome.Effect.TheVariants as effect
use Rattle.mock_table.specs.declared.outcome.ReplyKind.{ReplyKind}
use Rattle.mock_table.specs.declared.outcome.ReplyKind.TheVariants as reply
use Rattle.mock_table.specs.declared.outcome.Outcome.{Outcome}
use Rattle.std.specs.Prelude.{Option}
use Rattle.protocol_codes.specs.declared.ResetOpcode.{ResetOpcode}

-- what an outcome tells by number
abbrev told : Outcome → ℕ
told r = number (result_told r.answer.result r.answer.signature)

-- what a call says of its transaction: 0 none, 1 awaiting data, 2 awaiting status
abbrev state_number : CommandState → ℕ
state_number None = 0
state_number (IO c) = 1
state_number (Status c status) = 2

module _ (v : Variety) (block : ℕ) (last : Option ResetOpcode) where
  -- `write_outcome`: always refusing, whatever is told; one sector of data is taken
  pub write_always_refusing : (r : Outcome) (n : ℕ) → told r ≡ suc n
      → OutcomeMeets r (write_turn v block (session (IO (write_lba_command 1 0 1)) last) 128 (replicate 512 0)) → ⊥
  unfolding number or_refuse write_row write_io_turn sector_turn is_out has_code fits_in done
  write_always_refusing r n e meets = let z : 0 ≡ suc n = sym (ap number meets.tells.tells) ∙ e in omega arith

  -- the direction not looked at: a write to a command whose data goes in is done
  pub direction_not_looked_at : (r : Outcome) → told r ≡ 0
      → OutcomeMeets r (write_turn v block (session (IO (sector_command 1 512 In WriteLBA 0 1)) last) 128 (replicate 512 0)) → ⊥
  unfolding number or_refuse write_row write_io_turn is_out refuses
  direction_not_looked_at r e meets = let z : ◌≡◌ {A = ℕ} 55 0 = sym (ap number meets.tells.tells) ∙ e in omega arith

  -- `read_outcome`: always refusing; 16 bytes of chip info are given
  pub read_always_refusing : (r : Outcome) (n : ℕ) → told r ≡ suc n → OutcomeMeets r (read_turn v (session (IO (chip_info_command 1)) last) 128 16) → ⊥
  unfolding number or_refuse read_row read_io_turn code_turn reply_turn reply_size is_in has_code done
  read_always_refusing r n e meets = let z : 0 ≡ suc n = sym (ap number meets.tells.tells) ∙ e in omega arith

  -- a reply of any size: 15 bytes of chip info are given
  pub reply_of_any_size : (r : Outcome) → told r ≡ 0 → OutcomeMeets r (read_turn v (session (IO (chip_info_command 1)) last) 128 15) → ⊥
  unfolding number or_refuse read_row read_io_turn code_turn reply_turn reply_size is_in has_code refuses
  reply_of_any_size r e meets = let z : ◌≡◌ {A = ℕ} 50 0 = sym (ap number meets.tells.tells) ∙ e in omega arith

  -- a transaction that goes on after its status
  pub transaction_after_status : (r : Outcome) (c : CommandBlock) (status : pending.Status) (n : ℕ) → state_number r.session.current_command ≡ suc n
      → OutcomeMeets r (read_turn v (session (Status c status) last) 128 13) → ⊥
  unfolding or_refuse read_row status_turn reply_size done
  transaction_after_status r c status n e meets =
      let z : 0 ≡ suc n = sym (ap (λ (s : Session). state_number s.current_command) meets.next) ∙ e in omega arith

-- a command's 31 bytes, written where there is no transaction
abbrev block_of : CommandBlock → List ℕ
block_of c = command_bytes c ++ replicate 7 0

begins : (v : Variety) (block : ℕ) (last : Option ResetOpcode) (c : CommandBlock) → BlockFits c → (r : Outcome)
    → OutcomeMeets r (write_turn v block (session None last) 128 (block_of c)) → OutcomeMeets r (start_turn v block (given c) last 128)
unfolding write_row
begins v block last c fits r meets =
    subst (λ (t : Told CommandBlock). OutcomeMeets r (start_turn v block t last 128)) (reads_back c (replicate 7 0) fits (omega arith)) meets

fits : (c : CommandBlock) → c.tag < 256 ^ 4 → c.transfer_length < 256 ^ 4 → c.cd_address < 256 ^ 4 → c.cd_length < 256 ^ 2 → BlockFits c
fits c a b d e = record { tag = a; transfer = b; address = d; count = e }

-- the status that a read is given, by number; 2 where it is given none
abbrev replied : ReplyKind → ℕ
replied reply.FlashId = 2
replied reply.FlashInfo = 2
replied reply.ChipInfo = 2
replied reply.Capability = 2
replied reply.Storage = 2
replied (reply.Status tag status) = status_number status

abbrev status_in : Effect → ℕ
status_in effect.Nothing = 2
status_in (effect.Fill range) = 2
status_in (effect.Store range) = 2
status_in (effect.Program range) = 2
status_in (effect.Supply range) = 2
status_in (effect.Reply kind) = replied kind

-- the status that is pending, by number; 2 where none is
abbrev pending_number : CommandState → ℕ
pending_number None = 2
pending_number (IO c) = 2
pending_number (Status c status) = status_number status

module _ (last : Option ResetOpcode) where
  -- `write_outcome` of NOR in blocks of 64: 63 before 57, of an erase of 2 sectors at 127 of 128, which breaks both
  pub blocks_before_range : (r : Outcome) → told r ≡ 63 → OutcomeMeets r (write_turn Nor 64 (session None last) 128 (block_of (erase_lba_command 1 127 2))) → ⊥
  unfolding number or_refuse start_turn zero_length_turn is_erase has_code erase_turn erase_rules fits_in refuses
  blocks_before_range r e meets =
      let c = erase_lba_command 1 127 2 in
      let m = begins Nor 64 last c (fits c (omega arith) (omega arith) (omega arith) (omega arith)) r meets in
      let z : ◌≡◌ {A = ℕ} 63 57 = sym e ∙ ap number m.tells.tells in omega arith

  -- a part of a block erased: one sector at 64
  pub part_of_a_block : (r : Outcome) → told r ≡ 0 → OutcomeMeets r (write_turn Nor 64 (session None last) 128 (block_of (erase_lba_command 1 64 1))) → ⊥
  unfolding number or_refuse start_turn zero_length_turn is_erase has_code erase_turn erase_rules fits_in splits is_multiple refuses
  part_of_a_block r e meets =
      let c = erase_lba_command 1 64 1 in
      let m = begins Nor 64 last c (fits c (omega arith) (omega arith) (omega arith) (omega arith)) r meets in
      let z : ◌≡◌ {A = ℕ} 0 63 = sym e ∙ ap number m.tells.tells in omega arith

  -- the count alone looked at: 0 sectors at 1
  pub no_sectors_anywhere : (r : Outcome) → told r ≡ 0 → OutcomeMeets r (write_turn Nor 64 (session None last) 128 (block_of (erase_lba_command 1 1 0))) → ⊥
  unfolding number or_refuse start_turn zero_length_turn is_erase has_code erase_turn erase_rules fits_in splits is_multiple refuses
  no_sectors_anywhere r e meets =
      let c = erase_lba_command 1 1 0 in
      let m = begins Nor 64 last c (fits c (omega arith) (omega arith) (omega arith) (omega arith)) r meets in
      let z : ◌≡◌ {A = ℕ} 0 63 = sym e ∙ ap number m.tells.tells in omega arith

  -- the other code not held to blocks
  pub part_of_a_block_by_force : (r : Outcome) → told r ≡ 0 → OutcomeMeets r (write_turn Nor 64 (session None last) 128 (block_of (erase_force_command 1 64 1))) → ⊥
  unfolding number or_refuse start_turn zero_length_turn is_erase has_code erase_turn erase_rules fits_in splits is_multiple refuses
  part_of_a_block_by_force r e meets =
      let c = erase_force_command 1 64 1 in
      let m = begins Nor 64 last c (fits c (omega arith) (omega arith) (omega arith) (omega arith)) r meets in
      let z : ◌≡◌ {A = ℕ} 0 63 = sym e ∙ ap number m.tells.tells in omega arith

  -- a head whose block size is 0 erases a sector
  pub erased_without_blocks : (r : Outcome) → told r ≡ 0 → OutcomeMeets r (write_turn Nor 0 (session None last) 128 (block_of (erase_lba_command 1 0 1))) → ⊥
  unfolding number or_refuse start_turn zero_length_turn is_erase has_code erase_turn erase_rules fits_in splits is_multiple refuses
  erased_without_blocks r e meets =
      let c = erase_lba_command 1 0 1 in
      let m = begins Nor 0 last c (fits c (omega arith) (omega arith) (omega arith) (omega arith)) r meets in
      let z : ◌≡◌ {A = ℕ} 0 63 = sym e ∙ ap number m.tells.tells in omega arith

  -- the first variety's erases held to blocks
  pub first_held_to_blocks : (r : Outcome) → told r ≡ 63 → OutcomeMeets r (write_turn First 64 (session None last) 128 (block_of (erase_lba_command 1 64 1))) → ⊥
  unfolding number or_refuse start_turn zero_length_turn is_erase has_code erase_turn erase_rules fits_in splits done
  first_held_to_blocks r e meets =
      let c = erase_lba_command 1 64 1 in
      let m = begins First 64 last c (fits c (omega arith) (omega arith) (omega arith) (omega arith)) r meets in
      let z : ◌≡◌ {A = ℕ} 63 0 = sym e ∙ ap number m.tells.tells in omega arith

  -- the switch to 4 refused
  pub switch_to_4_refused : (r : Outcome) (n : ℕ) → told r ≡ suc n → OutcomeMeets r (write_turn Nor 64 (session None last) 128 (block_of (switch_command 1 SpiNor))) → ⊥
  unfolding number start_turn zero_length_turn is_erase has_code switches done
  switch_to_4_refused r n e meets =
      let c = switch_command 1 SpiNor in
      let m = begins Nor 64 last c (fits c (omega arith) (omega arith) (omega arith) (omega arith)) r meets in
      let z : suc n ≡ 0 = sym e ∙ ap number m.tells.tells in omega arith

  -- .. told FAILED
  pub switch_to_4_failed : (r : Outcome) → pending_number r.session.current_command ≡ 1
      → OutcomeMeets r (write_turn Nor 64 (session None last) 128 (block_of (switch_command 1 SpiNor))) → ⊥
  unfolding start_turn zero_length_turn is_erase has_code switches switched done
  switch_to_4_failed r e meets =
      let c = switch_command 1 SpiNor in
      let m = begins Nor 64 last c (fits c (omega arith) (omega arith) (omega arith) (omega arith)) r meets in
      let z : ◌≡◌ {A = ℕ} 1 0 = sym e ∙ ap (λ (s : Session). pending_number s.current_command) m.next in omega arith

  -- a switch to another storage told success
  pub switch_elsewhere_succeeds : (r : Outcome) → pending_number r.session.current_command ≡ 0
      → OutcomeMeets r (write_turn Nor 64 (session None last) 128 (block_of (switch_command 1 Emmc))) → ⊥
  unfolding start_turn zero_length_turn is_erase has_code switches switched done
  switch_elsewhere_succeeds r e meets =
      let c = switch_command 1 Emmc in
      let m = begins Nor 64 last c (fits c (omega arith) (omega arith) (omega arith) (omega arith)) r meets in
      let z : ◌≡◌ {A = ℕ} 0 1 = sym e ∙ ap (λ (s : Session). pending_number s.current_command) m.next in omega arith

  -- the first variety switches
  pub first_switches : (r : Outcome) → told r ≡ 0 → OutcomeMeets r (write_turn First 64 (session None last) 128 (block_of (switch_command 1 SpiNor))) → ⊥
  unfolding number start_turn zero_length_turn is_erase has_code switches refuses
  first_switches r e meets =
      let c = switch_command 1 SpiNor in
      let m = begins First 64 last c (fits c (omega arith) (omega arith) (omega arith) (omega arith)) r meets in
      let z : ◌≡◌ {A = ℕ} 0 53 = sym e ∙ ap number m.tells.tells in omega arith

  -- `read_outcome`: the storage request refused by NOR, answered by the first variety
  pub storage_refused : (r : Outcome) (n : ℕ) → told r ≡ suc n → OutcomeMeets r (read_turn Nor (session (IO (storage_command 1)) last) 128 4) → ⊥
  unfolding number or_refuse read_row read_io_turn code_turn reply_turn reply_size is_in has_code tells_storage done
  storage_refused r n e meets = let z : 0 ≡ suc n = sym (ap number meets.tells.tells) ∙ e in omega arith

  -- .. or given in another size
  pub storage_of_any_size : (r : Outcome) → told r ≡ 0 → OutcomeMeets r (read_turn Nor (session (IO (storage_command 1)) last) 128 5) → ⊥
  unfolding number or_refuse read_row read_io_turn code_turn reply_turn reply_size is_in has_code tells_storage refuses
  storage_of_any_size r e meets = let z : ◌≡◌ {A = ℕ} 50 0 = sym (ap number meets.tells.tells) ∙ e in omega arith

  pub first_tells_storage : (r : Outcome) → told r ≡ 0 → OutcomeMeets r (read_turn First (session (IO (storage_command 1)) last) 128 4) → ⊥
  unfolding number or_refuse read_row read_io_turn code_turn is_in has_code tells_storage refuses
  first_tells_storage r e meets = let z : ◌≡◌ {A = ℕ} 54 0 = sym (ap number meets.tells.tells) ∙ e in omega arith

  -- one status for all: success told where FAILED is pending, or the other way round
  pub one_status_for_all : (v : Variety) (c : CommandBlock) (r s : Outcome) → r.effect ≡ s.effect
      → OutcomeMeets r (read_turn v (session (Status c SUCCESS) last) 128 13) → OutcomeMeets s (read_turn v (session (Status c FAILED) last) 128 13) → ⊥
  unfolding or_refuse read_row status_turn reply_size done
  one_status_for_all v c r s e m n = let z : ◌≡◌ {A = ℕ} 0 1 = ap status_in (sym m.effect ∙ e ∙ n.effect) in omega arith
