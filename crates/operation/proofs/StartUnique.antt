-- Two starts that a contract allows are equal: each is read off what it tells.
use Prim.Native.Nat.{ℕ}
use mathlib.Core.Path.{◌≡◌, ap₂, sym, ◌∙◌}
use Rattle.protocol.specs.declared.CommandBlock.{CommandBlock}
use Rattle.protocol_reply.specs.Sectors.{sectors_in}
use Rattle.protocol_reply.proofs.Unique.{sectors_unique}
use Rattle.operation_finish.specs.declared.Kind.{Kind}
use Rattle.operation.specs.declared.steps.UsbOperation.{UsbOperation}
use Rattle.operation.specs.declared.starts.UsbStart.{UsbStart}
use Rattle.operation.specs.Start.{StartMeets}
use Rattle.std.specs.Prelude.{Result}
use Rattle.protocol_reply.specs.declared.size.SectorCount.{SectorCount}
use Rattle.protocol_reply.specs.declared.size.SectorError.{SectorError}

pub start_unique : (r s : UsbStart) (kind : Kind) (command : ℕ → CommandBlock) (size : ℕ)
    → StartMeets r kind command size → StartMeets s kind command size → r ≡ s
start_unique r s kind command size p q =
    ap₂ (λ (a : Result SectorCount SectorError) (o : UsbOperation). record { answer = a; operation = o })
    (sectors_unique (sectors_in size) r.answer s.answer p.tells q.tells) (p.operation ∙ sym q.operation)
