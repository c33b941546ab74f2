-- A bulk call at a device with a flash of whole sectors is the table's turn for its transaction, applied; a write with the status that its effect
-- answers.
use Prim.Native.Nat.{ℕ}
use mathlib.Core.Path.{◌≡◌, ap, ◌∙◌}
use mathlib.Core.List.{List}
use lib.ListN.{length}
use Rattle.promise.specs.Told.{Told, given}
use Rattle.mock_base.specs.Flash.{flash_sectors}
use Rattle.mock_table.specs.Turn.{Turn}
use Rattle.mock_table.specs.Table.{write_row, read_row}
use Rattle.mock_table.specs.declared.session.CommandState.{CommandState}
use Rattle.mock_effects.specs.Effects.{flash_after, pending_after, buffer_after}
use Rattle.mock_effects.specs.Steps.{pended, write_step_of, write_step_by, read_step_of, read_step_by}
use Rattle.mock.specs.declared.device.MockState.{MockState}
use Rattle.mock.specs.Device.{Call, session_of, with_session, bulk, write_bulk, read_bulk}

-- a turn of the table as a call that leaves its bytes so
abbrev pub as_call : MockState → Turn → List ℕ → Call
as_call device t leaves = record { told = t.told; next = with_session device t.next; leaves = leaves }

-- a turn whose effect on these bytes and this flash answered its status
abbrev pub applied : Turn → List ℕ → List ℕ → Turn
applied t lent flash = record { told = t.told; next = pended (pending_after t.effect lent flash) t.next; effect = t.effect }

module _ (device : MockState) (flash lent : List ℕ) (sectors : ℕ) (state : CommandState) (t : Turn) (legal : flash_sectors (length flash) ≡ given sectors)
    (here : device.current_command ≡ state) where
  abbrev block : ℕ
  block = device.config.block_size_sectors

  pub writes_as : write_row device.variety block state device.last_reset sectors lent ≡ t
      → write_bulk device flash lent ≡ as_call device (applied t lent flash) (flash_after t.effect lent flash)
  unfolding write_bulk write_step_by write_step_of
  writes_as row =
      ap (λ (x : Told ℕ). bulk device (write_step_of x device.variety block (session_of device) flash lent)) legal
      ∙ ap (λ (x : Turn). as_call device (applied x lent flash) (flash_after x.effect lent flash))
      (ap (λ (x : CommandState). write_row device.variety block x device.last_reset sectors lent) here ∙ row)

  pub reads_as : read_row device.variety state device.last_reset sectors (length lent) ≡ t
      → read_bulk device flash lent ≡ as_call device t (buffer_after device.config t.effect flash lent)
  unfolding read_bulk read_step_by read_step_of
  reads_as row =
      ap (λ (x : Told ℕ). bulk device (read_step_of x device.variety (session_of device) device.config flash lent)) legal
      ∙ ap (λ (x : Turn). as_call device x (buffer_after device.config x.effect flash lent))
      (ap (λ (x : CommandState). read_row device.variety x device.last_reset sectors (length lent)) here ∙ row)
