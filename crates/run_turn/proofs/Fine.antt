-- What a step with 31 bytes of output may ask for, by the operation's kind and the length of what it is lent.
use Prim.Native.Nat.{ℕ, ◌≤◌}
use mathlib.Core.Path.{◌≡◌, refl}
use mathlib.Core.Bool.{true, false}
use mathlib.Core.List.{List, [], ◌∷◌}
use native.Mathlib.Omega.{arith}
use lib.Dec.{ltb}
use lib.ListN.{length}
use borrow.Author.Tests.{ltb-false}
use Rattle.promise.specs.Told.{Told, given, refused, and_then}
use Rattle.promise.specs.Rules.{rule, or_refuse}
use Rattle.promise.specs.Bytes.{high_first, low_first}
use Rattle.promise.proofs.Outcome.{either_way}
use Rattle.protocol.specs.CommandBytes.{command_bytes}
use Rattle.operation_finish.specs.Reply.{Reply}
use Rattle.operation_finish.specs.Finish.{finishes}
use Rattle.operation_finish.specs.declared.Kind.{Kind}
use Rattle.operation_finish.specs.declared.Kind.TheVariants as kind
use Rattle.operation.specs.declared.steps.Operation.{Operation}
use Rattle.operation.specs.declared.steps.Operation.TheVariants as operation
use Rattle.operation.specs.declared.steps.Asked.{Asked}
use Rattle.operation.specs.declared.steps.Asked.TheVariants as asked
use Rattle.operation.specs.declared.steps.UsbOperation.{UsbOperation}
use Rattle.operation.specs.Record.{io_of, transfer_length, turned}
use Rattle.operation.specs.Step.{Asks, writes_command, writes_data, reads, finished, Step, does, stays, sector_step, command_step, io_step, status_step, finished_told, finish_step, step_of, usb_step}
use Rattle.run_turn.specs.Turn.{is_write}

-- a reply has 16 bytes at most and a status 13; sectors are no more than was lent, to an operation that goes their way
abbrev pub FineRead : Asked → Kind → ℕ → ℕ → Type 0
FineRead asked.Nothing k lent n = ⊥
FineRead asked.Inband k lent n = n ≤ 16
FineRead asked.Sectors k lent n = (is_write k ≡ false) × (n ≤ lent)
FineRead asked.Status k lent n = n ≡ 13

abbrev pub Fine : Kind → ℕ → Told Asks → List ℕ → Type 0
Fine k lent (given writes_command) sent = length sent ≡ 31
Fine k lent (given (writes_data n)) sent = (is_write k ≡ true) × (n ≤ lent)
Fine k lent (given (reads asked n)) sent = FineRead asked k lent n
Fine k lent (given (finished reply)) sent = Unit
Fine k lent (refused number values) sent = Unit

sectors_fine : (k : Kind) (op : UsbOperation) (lent : ℕ) (asks : Asks) (a : Asked) → (transfer_length op ≤ lent → Fine k lent (given asks) [])
    → Fine k lent (sector_step op lent asks a).told (sector_step op lent asks a).sent
sectors_fine k op lent asks a f =
    either_way (λ (s : Step). Fine k lent s.told s.sent) (stays op) (rule (ltb lent (transfer_length op)) 27 [] ∷ [])
    (does (given asks) [] (turned op operation.CommandStatus a)) (λ n values. tt) (λ met. f (ltb-false lent (transfer_length op) met.0))

io_fine : (k : Kind) (op : UsbOperation) (lent : ℕ) → Fine k lent (io_step (io_of k) op lent).told (io_step (io_of k) op lent).sent
unfolding io_step is_write
io_fine kind.ChipInfo op lent = omega arith
io_fine kind.FlashId op lent = omega arith
io_fine kind.FlashInfo op lent = omega arith
io_fine kind.Capability op lent = omega arith
io_fine kind.Nothing op lent = omega arith
io_fine kind.Storage op lent = omega arith
io_fine kind.Read op lent = sectors_fine kind.Read op lent (reads asked.Sectors (transfer_length op)) asked.Sectors (λ h. (refl, h))
io_fine kind.Write op lent = sectors_fine kind.Write op lent (writes_data (transfer_length op)) asked.Nothing (λ h. (refl, h))

finished_fine : (k : Kind) (lent : ℕ) (t : Told Reply) → Fine k lent (finished_told t) []
unfolding finished_told and_then
finished_fine k lent (given reply) = tt
finished_fine k lent (refused number values) = tt

step_fine : (here : Operation) (op : UsbOperation) (lent : ℕ) → Fine op.kind lent (step_of here op lent 31).told (step_of here op lent 31).sent
unfolding step_of command_step or_refuse status_step finish_step command_bytes high_first low_first
step_fine operation.CommandBlock op lent = refl
step_fine operation.IO op lent = io_fine op.kind op lent
step_fine operation.CommandStatus op lent = refl
step_fine operation.Finish op lent =
    finished_fine op.kind lent (finishes op.kind op.command.tag (transfer_length op) op.command_bytes op.«data»)

pub fine : (op : UsbOperation) (lent : ℕ) → Fine op.kind lent (usb_step op lent 31).told (usb_step op lent 31).sent
fine op lent = step_fine op.next op lent
