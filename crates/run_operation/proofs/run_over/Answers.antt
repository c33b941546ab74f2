-- The tests are the run's rules in their order, and past them stand its turns.
use Prim.Native.Nat.{◌≤◌, ◌<◌}
use mathlib.Core.Path.{◌≡◌, refl, sym, ◌∙◌}
use mathlib.Core.List.{[]}
use native.Mathlib.Omega.{arith}
use lib.ListN.{length}
use Rattle.protocol_bytes.specs.Signature.{no_signature}
use Rattle.mock_base.specs.Told.{error_number, error_values}
use Rattle.mock_base.specs.declared.error.MockTransportError.TheVariants as error
use Rattle.operation.specs.Record.{transfer_length}
use Rattle.promise.specs.Run.{runs}
use Rattle.run_turn.specs.declared.StopError.TheVariants as stop
use Rattle.run_turn.specs.Turn.{usb_state, is_write, lent_to, usb_turn}
use Rattle.run_operation.specs.Run.{sector_data, unstarted, usb_run}
use Rattle.run_operation.specs.Code.{unstarted_by}
use Rattle.run_operation.proofs.Checks.{device_unstarted, data_unstarted, flash_refused, store_refused, data_refused, unrefused, as_run, whole_size, refused_size, length_picked}
use Rattle.promise.specs.Rules.{differs}
use Rattle.run_operation.proofs.run_over.Goals as goal

pub returns-in-Err : goal.returns-in-Err
returns-in-Err c =
    let a = c.args in
    let lent = lent_to a.operation.kind a.source.now a.room.now in
    let s = usb_state a.operation a.device a.flash.now lent in
    let e = c.in-Err.error in
    as_run c.unstarted.result (unstarted_by (stop.Device e) a.operation a.device) a.flash.now lent (usb_run s a.store a.budget)
    (unstarted s (error_number e) (error_values e no_signature)) c.unstarted.ensures
    (flash_refused s a.store a.budget e
    (refused_size c.flash_sectors.result (length a.flash.now) e c.flash_sectors.ensures c.in-Err.is))
    (device_unstarted a.operation a.device a.flash.now lent e)

pub returns-then-store-device : goal.returns-then-store-device
unfolding error_values
returns-then-store-device c =
    let a = c.args in
    let lent = lent_to a.operation.kind a.source.now a.room.now in
    let s = usb_state a.operation a.device a.flash.now lent in
    let h = whole_size c.flash_sectors.result (length a.flash.now) c.in_default.field-0 c.flash_sectors.ensures c.in_default.is in
    as_run c.unstarted-then-store-device.result (unstarted_by (stop.Device error.StoreLength) a.operation a.device) a.flash.now lent (usb_run s a.store a.budget)
    (unstarted s 65 []) c.unstarted-then-store-device.ensures
    (store_refused s a.store a.budget c.in_default.field-0 h c.if-store-device.true)
    (device_unstarted a.operation a.device a.flash.now lent error.StoreLength)

pub returns-then-lent_length-sector_data : goal.returns-then-lent_length-sector_data
returns-then-lent_length-sector_data c =
    let a = c.args in
    let lent = lent_to a.operation.kind a.source.now a.room.now in
    let s = usb_state a.operation a.device a.flash.now lent in
    let h = whole_size c.flash_sectors.result (length a.flash.now) c.in_default.field-0 c.flash_sectors.ensures c.in_default.is in
    let long : c.lent_length.result ≡ length lent =
    c.lent_length.ensures ∙ sym (length_picked (is_write a.operation.kind) a.source.now a.room.now) in
    let wanted : c.sector_data.result ≡ sector_data a.operation.kind (transfer_length a.operation) = c.sector_data.ensures in
    let few : length lent < sector_data a.operation.kind (transfer_length a.operation) = omega (arith, c.if-lent_length-sector_data.true) in
    as_run c.unstarted-then-lent_length-sector_data.result (unstarted_by stop.DataDiffers a.operation a.device) a.flash.now lent (usb_run s a.store a.budget)
    (unstarted s differs []) c.unstarted-then-lent_length-sector_data.ensures
    (data_refused s a.store a.budget c.in_default.field-0 h c.if-store-device.false few)
    (data_unstarted a.operation a.device a.flash.now lent)

pub returns : goal.returns
returns c =
    let a = c.args in
    let lent = lent_to a.operation.kind a.source.now a.room.now in
    let s = usb_state a.operation a.device a.flash.now lent in
    let h = whole_size c.flash_sectors.result (length a.flash.now) c.in_default.field-0 c.flash_sectors.ensures c.in_default.is in
    let long : c.lent_length.result ≡ length lent =
    c.lent_length.ensures ∙ sym (length_picked (is_write a.operation.kind) a.source.now a.room.now) in
    let wanted : c.sector_data.result ≡ sector_data a.operation.kind (transfer_length a.operation) = c.sector_data.ensures in
    let enough : sector_data a.operation.kind (transfer_length a.operation) ≤ length lent = omega (arith, c.if-lent_length-sector_data.false) in
    let r = c.run_on in
    as_run r.result r.result r.new.flash (lent_to a.operation.kind a.source.now r.new.room) (usb_run s a.store a.budget) (runs usb_turn a.budget s) refl
    (unrefused s a.store a.budget c.in_default.field-0 h c.if-store-device.false enough)
    r.ensures
