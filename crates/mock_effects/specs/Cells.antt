-- A byte of a NOR flash: which bits it has after a call, and where an erase sets them.
use Rattle.std.specs.Prelude.{ℕ, ◌+◌, ◌*◌, ◌≤◌, ◌<◌, ◌≡◌, List, get_or}
use Rattle.std.specs.Int.Bits.{bit_and}
use Rattle.promise.specs.Told.{Told, given}
use Rattle.protocol_bytes.specs.Sector.{sector_size}
use Rattle.protocol.specs.declared.CommandBlock.{CommandBlock}
use Rattle.mock_base.specs.declared.cells.Variety.TheVariants.{Nor}
use Rattle.mock_table.specs.Erasing.{Erases}

-- no bit is set afterwards that was not set before
abbrev pub GainsNone : List ℕ → List ℕ → ℕ → Type 0
GainsNone before after i = bit_and (get_or before i 0) (get_or after i 0) ≡ get_or after i 0

-- byte i lies in the sectors of an erase that was taken
pub record ErasedPlace (block sectors : ℕ) (read_as : Told CommandBlock) (i : ℕ) : Type 0 where
  pub command : CommandBlock
  pub read : read_as ≡ given command
  pub erases : Erases Nor block sectors command
  pub from : command.cd_address * sector_size ≤ i
  pub to : i < command.cd_address * sector_size + command.cd_length * sector_size
