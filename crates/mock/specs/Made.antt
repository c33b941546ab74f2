-- The device's record as calls from a fresh start can make it: "The rules above speak of records that calls from a fresh start can make".
use Rattle.std.specs.Prelude.{ℕ, ◌≤◌, ◌≡◌, List}
use Rattle.promise.specs.Told.{given}
use Rattle.promise.specs.Bytes.{AreBytes}
use Rattle.protocol_codes.specs.Numbers.{reset_number}
use Rattle.protocol.specs.CommandBytes.{read_command, BlockFits}
use Rattle.protocol.specs.declared.CommandBlock.{CommandBlock}
use Rattle.mock_base.specs.declared.cells.Variety.{Variety}
use Rattle.mock_base.specs.declared.cells.Variety.TheVariants.{First, Nor}
use Rattle.mock_base.specs.declared.config.MockDeviceConfig.{MockDeviceConfig}
use Rattle.mock_areas.specs.Reached.{Filled}
use Rattle.mock_table.specs.Turn.{Quiet}
use Rattle.mock_table.specs.declared.session.CommandState.{CommandState}
use Rattle.mock_table.specs.declared.session.CommandState.TheVariants as state
use Rattle.mock.specs.Device.{created, write_bulk, read_bulk, write_control}
use Rattle.mock.specs.declared.device.MockState.{MockState}
use Rattle.std.specs.Prelude.{Option}
use Rattle.protocol_codes.specs.declared.ResetOpcode.{ResetOpcode}
use Rattle.std.specs.declared.option.Option.TheVariants.{Some, None}

-- the record that a creation of this variety for this configuration and a store of n bytes comes to, or a call on such a record, refused or not; what
-- is written is bytes
pub data Made (v : Variety) (config : MockDeviceConfig) (n : ℕ) : MockState → Type 0 where
  creates : (flash : ℕ) → Made v config n (created v config flash n).fresh
  writes : (s : MockState) (flash bytes : List ℕ) → Made v config n s → AreBytes bytes → Made v config n (write_bulk s flash bytes).next
  reads : (s : MockState) (flash buffer : List ℕ) → Made v config n s → Made v config n (read_bulk s flash buffer).next
  controls : (s : MockState) (type request value index : ℕ) (bytes store : List ℕ) → Made v config n s
      → Made v config n (write_control s type request value index bytes store).next

-- a command that was read from a block of bytes
pub record FromBlock (c : CommandBlock) : Type 0 where
  pub block : List ℕ
  pub are : AreBytes block
  pub told : read_command block ≡ given c
  pub fits : BlockFits c

-- the transaction's command is such a one, and data is awaited only for a transfer length other than 0
abbrev pub OfBlock : CommandState → Type 0
OfBlock state.None = Unit
OfBlock (state.IO c) = FromBlock c × (c.transfer_length ≡ 0 → ⊥)
OfBlock (state.Status c status) = FromBlock c

-- FAILED is pending for NOR alone
abbrev pub OfVariety : Variety → CommandState → Type 0
OfVariety First at = Quiet at
OfVariety Nor at = Unit

-- the last reset is none, or an opcode of 0 to 4
abbrev pub OfOpcode : Option ResetOpcode → Type 0
OfOpcode None = Unit
OfOpcode (Some opcode) = reset_number opcode ≤ 4

-- what such a record is
pub record Reached (v : Variety) (config : MockDeviceConfig) (n : ℕ) (s : MockState) : Type 0 where
  pub configured : s.config ≡ config
  pub own : s.variety ≡ v
  pub stored : s.store_length ≡ n
  pub filled : Filled s.areas n
  pub transaction : OfBlock s.current_command
  pub pending : OfVariety v s.current_command
  pub opcode : OfOpcode s.last_reset
