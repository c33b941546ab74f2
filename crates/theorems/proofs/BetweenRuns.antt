-- What holds of the device between one run and the next: it has no transaction, and what it is lent is as long as ever.
use Prim.Native.Nat.{ℕ}
use mathlib.Core.Path.{ap, sym, ◌∙◌}
use mathlib.Core.List.{List}
use lib.ListN.{length}
use Rattle.operation.specs.declared.steps.UsbOperation.{UsbOperation}
use Rattle.mock_base.specs.Flash.{flash_sectors}
use Rattle.mock_base.specs.declared.cells.Variety.{Variety}
use Rattle.mock.specs.declared.device.MockState.{MockState}
use Rattle.run_turn.specs.Turn.{usb_state}
use Rattle.run_operation.specs.Run.{usb_run, whole_budget}
use Rattle.theorems.specs.Runs.{upload_run}
use Rattle.theorems.proofs.UploadKeeps.{upload_keeps}
use Rattle.theorems.proofs.NoTransactionLeft.{whole_idle}
use Rattle.theorems.specs.Standing.{Standing}

module _ (v : Variety) (device : MockState) (flash : List ℕ) (sectors : ℕ) where
  -- after one whole operation, whatever it was and ended in
  pub operation_stands : (op : UsbOperation) (bytes : List ℕ) (store : ℕ) → Standing v device flash store sectors
      → Standing v (usb_run (usb_state op device flash bytes) store whole_budget).state.device (usb_run (usb_state op device flash bytes) store whole_budget).state.flash store sectors
  operation_stands op bytes store stands =
      let idle = whole_idle (usb_state op device flash bytes) store stands.none in
      record {
        own = ap (λ (d : MockState). d.variety) idle.same ∙ stands.own;
        legal = ap flash_sectors idle.long ∙ stands.legal;
        stored = stands.stored ∙ sym (ap (λ (d : MockState). d.store_length) idle.same);
        none = ap (λ (d : MockState). d.current_command) idle.same;
      }

  -- after an upload, whatever it ended in
  pub upload_stands : (area : ℕ) (image store : List ℕ) (budget : ℕ) → Standing v device flash (length store) sectors
      → Standing v (upload_run area image (length flash) device store budget).state.device flash
      (length (upload_run area image (length flash) device store budget).state.store) sectors
  upload_stands area image store budget stands =
      let keeps = upload_keeps area image (length flash) device store budget in
      record {
        own = ap (λ (d : MockState). d.variety) keeps.same ∙ stands.own;
        legal = stands.legal;
        stored = keeps.long ∙ stands.stored ∙ sym (ap (λ (d : MockState). d.store_length) keeps.same);
        none = ap (λ (d : MockState). d.current_command) keeps.same ∙ stands.none;
      }
