-- The start of a sector operation over data of any length.
use Rattle.std.specs.Prelude.{ℕ, ◌≡◌}
use Rattle.promise.specs.Told.{Told, given, refused}
use Rattle.protocol.specs.declared.CommandBlock.{CommandBlock}
use Rattle.protocol_reply.specs.Sectors.{sector_told, sectors_in}
use Rattle.protocol_reply.specs.declared.size.SectorCount.{SectorCount}
use Rattle.operation_finish.specs.declared.Kind.{Kind}
use Rattle.operation.specs.declared.starts.UsbStart.{UsbStart}
use Rattle.operation.specs.Record.{fresh}

-- beside a refusal stands the operation of length 0
unfoldable pub sectors_or0 : Told SectorCount → ℕ
sectors_or0 (given count) = count.0
sectors_or0 (refused n values) = 0

-- a start that answers r, of an operation of this kind whose command for n sectors is `command n`, over `size` bytes
pub record StartMeets (r : UsbStart) (kind : Kind) (command : ℕ → CommandBlock) (size : ℕ) : Type 0 where
  pub tells : sector_told r.answer ≡ sectors_in size
  pub operation : r.operation ≡ fresh kind (command (sectors_or0 (sectors_in size)))
