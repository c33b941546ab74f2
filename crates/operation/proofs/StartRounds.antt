-- How many steps each operation takes from its start to its finish.
use Prim.Native.Nat.{ℕ, ◌<◌}
use mathlib.Core.Path.{◌≡◌, refl}
use native.Mathlib.Omega.{arith}
use Rattle.protocol_codes.specs.declared.ResetOpcode.{ResetOpcode}
use Rattle.protocol_codes.specs.declared.StorageIndex.{StorageIndex}
use Rattle.protocol.specs.Commands.{chip_info_command, flash_id_command, flash_info_command, capability_command, storage_command, erase_lba_command, erase_force_command, reset_command, switch_command, read_lba_command, write_lba_command}
use Rattle.operation_finish.specs.declared.Kind.TheVariants as kind
use Rattle.operation.specs.Record.{fresh, left_at, left}
use Rattle.operation.proofs.Rounds.{fresh_with}

-- a reply comes in a step of its own
module _ (tag : ℕ) where
  pub chip_info_takes : left (fresh kind.ChipInfo (chip_info_command tag)) ≡ 4
  unfolding left_at
  chip_info_takes = refl

  pub flash_id_takes : left (fresh kind.FlashId (flash_id_command tag)) ≡ 4
  unfolding left_at
  flash_id_takes = refl

  pub flash_info_takes : left (fresh kind.FlashInfo (flash_info_command tag)) ≡ 4
  unfolding left_at
  flash_info_takes = refl

  pub capability_takes : left (fresh kind.Capability (capability_command tag)) ≡ 4
  unfolding left_at
  capability_takes = refl

  pub storage_takes : left (fresh kind.Storage (storage_command tag)) ≡ 4
  unfolding left_at
  storage_takes = refl

  -- what moves no data takes three
  pub erase_lba_takes : (first count : ℕ) → left (fresh kind.Nothing (erase_lba_command tag first count)) ≡ 3
  unfolding left_at
  erase_lba_takes first count = refl

  pub erase_force_takes : (first count : ℕ) → left (fresh kind.Nothing (erase_force_command tag first count)) ≡ 3
  unfolding left_at
  erase_force_takes first count = refl

  pub reset_takes : (opcode : ResetOpcode) → left (fresh kind.Nothing (reset_command tag opcode)) ≡ 3
  unfolding left_at
  reset_takes opcode = refl

  pub switch_takes : (index : StorageIndex) → left (fresh kind.Nothing (switch_command tag index)) ≡ 3
  unfolding left_at
  switch_takes index = refl

  -- sectors take four, and none three: "Length 0 is legal"
  pub read_takes : (first count : ℕ) → 0 < count → left (fresh kind.Read (read_lba_command tag first count)) ≡ 4
  read_takes first count some = fresh_with kind.Read (read_lba_command tag first count) (λ e. omega arith)

  pub write_takes : (first count : ℕ) → 0 < count → left (fresh kind.Write (write_lba_command tag first count)) ≡ 4
  write_takes first count some = fresh_with kind.Write (write_lba_command tag first count) (λ e. omega arith)

  pub read_none_takes : (first : ℕ) → left (fresh kind.Read (read_lba_command tag first 0)) ≡ 3
  unfolding left_at
  read_none_takes first = refl

  pub write_none_takes : (first : ℕ) → left (fresh kind.Write (write_lba_command tag first 0)) ≡ 3
  unfolding left_at
  write_none_takes first = refl
