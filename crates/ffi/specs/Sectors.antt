-- One sector operation at a fresh stand-in, the Rust's default but for its flash, with no store.
use Rattle.std.specs.Prelude.{ℕ, ◌≡◌, List, [], ◌∷◌, length}
use Rattle.promise.specs.Told.{Told, given, refused, number}
use Rattle.protocol.specs.Commands.{read_lba_command, write_lba_command}
use Rattle.protocol_reply.specs.Sectors.{sectors_in}
use Rattle.protocol_reply.specs.declared.size.SectorCount.{SectorCount}
use Rattle.operation_finish.specs.declared.Kind.TheVariants as kind
use Rattle.operation_finish.specs.declared.SectorTransfer.{SectorTransfer}
use Rattle.operation_finish.specs.declared.SectorTransfer.TheVariants.{Whole, Short}
use Rattle.operation_finish.specs.Reply.{Reply, chip_info, flash_id, flash_info, capability, nothing, storage, moved}
use Rattle.operation.specs.declared.steps.UsbOperation.{UsbOperation}
use Rattle.operation.specs.Record.{fresh}
use Rattle.mock.specs.declared.device.MockState.{MockState}
use Rattle.mock_base.specs.Config.{default_config}
use Rattle.mock_base.specs.declared.cells.Variety.TheVariants.{First}
use Rattle.mock.specs.Device.{fresh_state}
use Rattle.promise.specs.Run.{end_told, Ran}
use Rattle.run_turn.specs.Turn.{UsbState, usb_state}
use Rattle.run_operation.specs.Run.{usb_run, whole_budget}

-- 0 or the number of the refusal, the flash, the caller's data, and his counts
pub record Carried : Type 0 where
  pub number : ℕ
  pub flash : List ℕ
  pub «data» : List ℕ
  pub counts : List ℕ

abbrev pub carried : ℕ → List ℕ → List ℕ → List ℕ → Carried
carried n flash bytes counts = record { number = n; flash = flash; «data» = bytes; counts = counts }

-- a function that answers r and leaves the flash, the data and the counts so
pub record SectorsMeet (r : ℕ) (flash-now bytes-now counts-now : List ℕ) (c : Carried) : Type 0 where
  pub tells : r ≡ c.number
  pub flash : flash-now ≡ c.flash
  pub leaves : bytes-now ≡ c.«data»
  pub counts : counts-now ≡ c.counts

-- how many bytes were moved and how many were asked for, of a whole transfer the same number twice
unfoldable pub counts_of : SectorTransfer → List ℕ
counts_of (Whole count) = count.0 ∷ count.0 ∷ []
counts_of (Short s) = s.moved.0 ∷ s.asked.0 ∷ []

-- the counts of a transfer that was told; nothing else writes them
unfoldable pub counts_after : Told Reply → List ℕ → List ℕ
counts_after (given (moved transfer)) before = counts_of transfer
counts_after (given (chip_info x)) before = before
counts_after (given (flash_id x)) before = before
counts_after (given (flash_info x)) before = before
counts_after (given (capability x)) before = before
counts_after (given nothing) before = before
counts_after (given (storage index)) before = before
counts_after (refused n vs) before = before

abbrev pub device : MockState
device = fresh_state First default_config 0

unfoldable pub ran_to : Ran Reply UsbState → List ℕ → Carried
ran_to run counts =
    let told = end_told run.end in
    carried (number told) run.state.flash run.state.«data» (counts_after told counts)

-- the whole run of an operation at the fresh stand-in
abbrev pub run_at : UsbOperation → List ℕ → List ℕ → List ℕ → Carried
run_at operation flash bytes counts = ran_to (usb_run (usb_state operation device flash bytes) 0 whole_budget) counts

-- 23 and 24, then the whole run of the operation over that many sectors
unfoldable pub carries : (ℕ → UsbOperation) → Told SectorCount → List ℕ → List ℕ → List ℕ → Carried
carries operation (given count) flash bytes counts = run_at (operation count.0) flash bytes counts
carries operation (refused n vs) flash bytes counts = carried n flash bytes counts

-- the tag, the same for every operation
abbrev pub one_tag : ℕ
one_tag = 1

abbrev pub reading : ℕ → ℕ → UsbOperation
reading first n = fresh kind.Read (read_lba_command one_tag first n)

abbrev pub writing : ℕ → ℕ → UsbOperation
writing first n = fresh kind.Write (write_lba_command one_tag first n)

abbrev pub read_sectors : ℕ → List ℕ → List ℕ → List ℕ → Carried
read_sectors first flash bytes counts = carries (reading first) (sectors_in (length bytes)) flash bytes counts

abbrev pub write_sectors : ℕ → List ℕ → List ℕ → List ℕ → Carried
write_sectors first flash bytes counts = carries (writing first) (sectors_in (length bytes)) flash bytes counts
