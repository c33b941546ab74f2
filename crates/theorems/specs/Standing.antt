-- What holds of a device between one run and the next, and what a run keeps of it.
use Rattle.std.specs.Prelude.{ℕ, ◌≡◌, List, length}
use Rattle.promise.specs.Told.{given}
use Rattle.mock_base.specs.Flash.{flash_sectors}
use Rattle.mock_table.specs.declared.session.CommandState.TheVariants.{None}
use Rattle.mock.specs.declared.device.MockState.{MockState}
use Rattle.mock_base.specs.declared.cells.Variety.{Variety}
use Rattle.mock_base.specs.declared.config.MockDeviceConfig.{MockDeviceConfig}
use Rattle.mock_table.specs.Turn.{session}
use Rattle.mock.specs.Device.{with_session, with_areas}
use Rattle.run_turn.specs.Turn.{UsbState}
use Rattle.mock_areas.specs.Contents.{Sound}
use Rattle.operation.specs.declared.steps.Operation.TheVariants as operation
use Rattle.operation.specs.Record.{transfer_length}
use Rattle.mock_table.specs.declared.session.CommandState.TheVariants as state
use Rattle.protocol.specs.CommandBytes.{BlockFits}

-- a device of this variety with no transaction, lent a flash of so many sectors and a store of its own length
pub record Standing (v : Variety) (device : MockState) (flash : List ℕ) (store sectors : ℕ) : Type 0 where
  pub own : device.variety ≡ v
  pub legal : flash_sectors (length flash) ≡ given sectors
  pub stored : store ≡ device.store_length
  pub none : device.current_command ≡ None

-- a configuration whose replies are as long as the protocol has them, as the Rust's default is
pub record Sized (config : MockDeviceConfig) : Type 0 where
  pub chip : length config.chip_info ≡ 16
  pub id : length config.flash_id ≡ 5
  pub capability : length config.capability ≡ 8
  pub extra : length config.flash_info_extra ≡ 5

-- no transaction, and all but the last reset as at `device`; a flash of so many bytes
pub record Idle (device : MockState) (flash : ℕ) (s : UsbState) : Type 0 where
  pub same : s.device ≡ with_session device (session None s.device.last_reset)
  pub long : length s.flash ≡ flash

-- a device and a store that differ from these by writes to areas
pub record Keeps (device : MockState) (store : List ℕ) (next : MockState) (leaves : List ℕ) : Type 0 where
  pub same : next ≡ with_areas device next.areas
  pub long : length leaves ≡ length store
  pub sound : Sound device.areas store → Sound next.areas leaves

-- a sector operation at its start, at a device with no transaction
pub record AtCommand (s : UsbState) : Type 0 where
  pub here : s.operation.next ≡ operation.CommandBlock
  pub none : s.device.current_command ≡ state.None
  pub fits : BlockFits s.operation.command
  pub long : transfer_length s.operation ≡ 0 → ⊥
