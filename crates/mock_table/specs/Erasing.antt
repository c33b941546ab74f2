-- Which erases are taken, and which 63 refuses.
use Rattle.std.specs.Prelude.{ℕ, ◌≡◌, true, false, List, []}
use Rattle.promise.specs.Told.{Told, refused}
use Rattle.protocol.specs.CommandBytes.{read_command}
use Rattle.protocol.specs.declared.CommandBlock.{CommandBlock}
use Rattle.mock_base.specs.Flash.{fits_in}
use Rattle.mock_base.specs.declared.cells.Variety.{Variety}
use Rattle.mock_table.specs.Turn.{is_erase}
use Rattle.mock_table.specs.Ways.{splits}
use Rattle.mock_table.specs.declared.session.CommandState.{CommandState}
use Rattle.mock_table.specs.declared.session.CommandState.TheVariants.{None, IO, Status}

-- what a bulk write is read as where a command is awaited; nothing where one has begun
unfoldable pub command_in : CommandState → List ℕ → Told CommandBlock
command_in None bytes = read_command bytes
command_in (IO c) bytes = refused 0 []
command_in (Status c status) bytes = refused 0 []

-- an erase, by either code, of sectors that are in the flash
pub record ErasesWithin (sectors : ℕ) (c : CommandBlock) : Type 0 where
  pub empty : c.transfer_length ≡ 0
  pub code : is_erase c ≡ true
  pub fits : fits_in sectors c.cd_address c.cd_length ≡ true

-- .. that is taken: it splits no block
pub record Erases (v : Variety) (block sectors : ℕ) (c : CommandBlock) : Type 0 where
  pub within : ErasesWithin sectors c
  pub whole : splits v block c ≡ false

-- .. and one that 63 refuses
pub record Splits (v : Variety) (block sectors : ℕ) (c : CommandBlock) : Type 0 where
  pub within : ErasesWithin sectors c
  pub parts : splits v block c ≡ true
