-- What holds of every whole operation from its start and of every whole upload holds of all that a block can ask for.
use Prim.Native.Nat.{ℕ, ◌*◌}
use mathlib.Core.List.{List, []}
use lib.ListN.{replicate}
use Rattle.protocol.specs.Commands.{chip_info_command, flash_id_command, flash_info_command, capability_command, storage_command, erase_lba_command, erase_force_command, read_lba_command, write_lba_command, reset_command, switch_command}
use Rattle.protocol.specs.declared.CommandBlock.{CommandBlock}
use Rattle.operation_finish.specs.declared.Kind.{Kind}
use Rattle.operation_finish.specs.declared.Kind.TheVariants as kind
use Rattle.operation.specs.Record.{fresh}
use Rattle.deck_block.specs.declared.Request.{Request}
use Rattle.deck_block.specs.declared.Request.TheVariants as request
use Rattle.deck.specs.Deal.{Head, Deal}
use Rattle.deck.specs.Dealing.{operate, load, carry_out}

module _ (P : Deal → Type 0) (h : Head) (operated : (k : Kind) (c : CommandBlock) (bytes : List ℕ) → P (operate (fresh k c) bytes h))
    (loaded : (area : ℕ) (image : List ℕ) → P (load area image h)) where
  pub by_request : (tag : ℕ) (asked : Request) → P (carry_out tag asked h)
  unfolding carry_out
  by_request tag request.ChipInfo = operated kind.ChipInfo (chip_info_command tag) []
  by_request tag request.FlashId = operated kind.FlashId (flash_id_command tag) []
  by_request tag request.FlashInfo = operated kind.FlashInfo (flash_info_command tag) []
  by_request tag request.Capability = operated kind.Capability (capability_command tag) []
  by_request tag (request.EraseLba first count) = operated kind.Nothing (erase_lba_command tag first count) []
  by_request tag (request.EraseForce first count) = operated kind.Nothing (erase_force_command tag first count) []
  by_request tag (request.ReadLba first count) = operated kind.Read (read_lba_command tag first count) (replicate (count * 512) 0)
  by_request tag (request.WriteLba first count fill) = operated kind.Write (write_lba_command tag first count) (replicate (count * 512) fill)
  by_request tag (request.ResetDevice opcode) = operated kind.Nothing (reset_command tag opcode) []
  by_request tag request.Storage = operated kind.Storage (storage_command tag) []
  by_request tag (request.SwitchStorage index) = operated kind.Nothing (switch_command tag index) []
  by_request tag (request.WriteArea area n fill) = loaded area (replicate n fill)
