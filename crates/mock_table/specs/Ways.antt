-- What the table asks of the flash's variety: how it stores, which erases it takes, whether it knows the switch, whether it tells its storage.
use Rattle.std.specs.Prelude.{ℕ, ◌%◌, Bool, false, not, eqb}
use Rattle.promise.specs.Rules.{pick}
use Rattle.protocol_codes.specs.declared.CommandCode.TheVariants.{GetStorageMedia, SwitchStorage}
use Rattle.protocol_codes.specs.declared.Direction.{Direction}
use Rattle.protocol_codes.specs.declared.Direction.TheVariants.{In, Out}
use Rattle.protocol_codes.specs.declared.Status.{Status}
use Rattle.protocol_codes.specs.declared.Status.TheVariants.{SUCCESS, FAILED}
use Rattle.protocol.specs.declared.CommandBlock.{CommandBlock}
use Rattle.mock_base.specs.declared.cells.Variety.{Variety}
use Rattle.mock_base.specs.declared.cells.Variety.TheVariants.{First, Nor}
use Rattle.mock_base.specs.declared.range.FlashRange.{FlashRange}
use Rattle.mock_table.specs.Turn.{has_code}
use Rattle.mock_table.specs.declared.outcome.Effect.{Effect}
use Rattle.mock_table.specs.declared.outcome.Effect.TheVariants.{Store, Program, Supply}

-- the data of a write replaces what stood there; of NOR it "leaves each byte as old AND new"
unfoldable pub stored_by : Variety → FlashRange → Effect
stored_by First range = Store range
stored_by Nor range = Program range

-- which way the data of a command over sectors goes
unfoldable pub moved_by : Variety → Direction → FlashRange → Effect
moved_by v Out range = stored_by v range
moved_by v In range = Supply range

-- n is a multiple of the block size; of 0 only 0 is
unfoldable pub is_multiple : ℕ → ℕ → Bool
is_multiple n block = pick (eqb block 0) (eqb n 0) (eqb (n % block) 0)

-- an erase "whose address or count isn't a multiple of the block size", of NOR alone
unfoldable pub splits : Variety → ℕ → CommandBlock → Bool
splits First block c = false
splits Nor block c = not (pick (is_multiple c.cd_address block) (is_multiple c.cd_length block) false)

-- NOR "accepts the switch command"
unfoldable pub switches : Variety → CommandBlock → Bool
switches First c = false
switches Nor c = has_code c SwitchStorage

-- the place of the one bit that its storage reply has set
abbrev pub nor_storage : ℕ
nor_storage = 4

-- "opcode 4 succeeds, any other gets a FAILED status"
unfoldable pub switched : ℕ → Status
switched opcode = pick (eqb opcode nor_storage) SUCCESS FAILED

-- NOR "answers the storage request"
unfoldable pub tells_storage : Variety → CommandBlock → Bool
tells_storage First c = false
tells_storage Nor c = has_code c GetStorageMedia
