-- The tests are the run's rules in their order.
use Rattle.std.proofs.Common.{◌≡◌, length, ap, sym, ◌∙◌, rules, Err}
use Rattle.promise.specs.Told.{given, refused}
use Rattle.mock_base.specs.Told.{error_values}
use Rattle.run_upload.specs.declared.LoadStopError.TheVariants.{Device}
use Rattle.run_upload.specs.Load.{load_state}
use Rattle.run_upload.specs.Answers.{load_stop_told}
use Rattle.run_upload.proofs.Checks.{by_flash, by_store, by_image, by_none}
use Rattle.run_upload.proofs.checked.Goals as goal

pub returns-in_err-flash_sectors : goal.returns-in_err-flash_sectors
unfolding load_stop_told
returns-in_err-flash_sectors c =
    let a = c.args in
    let s = load_state a.upload.now a.device.now a.store.now in
    let z = c.flash_sectors in
    let e = c.in_err-flash_sectors.field-0.0 in
    let made : c.from_residual.result ≡ Err (Device e) = search rules in
    ap load_stop_told made ∙ sym (by_flash refused (given tt) s (length a.flash.now) (length a.image.now) z.result e z.ensures c.in_err-flash_sectors.was)

pub returns-then-store-device : goal.returns-then-store-device
unfolding load_stop_told error_values
returns-then-store-device c =
    let a = c.args in
    let s = load_state a.upload.now a.device.now a.store.now in
    let z = c.flash_sectors in
    let w = c.in_ok-flash_sectors in
    sym (by_store refused (given tt) s (length a.flash.now) (length a.image.now) z.result w.field-0 z.ensures w.was c.if-store-device.true)

pub returns-then-image-upload : goal.returns-then-image-upload
unfolding load_stop_told
returns-then-image-upload c =
    let a = c.args in
    let s = load_state a.upload.now a.device.now a.store.now in
    let z = c.flash_sectors in
    let w = c.in_ok-flash_sectors in
    sym (by_image refused (given tt) s (length a.flash.now) (length a.image.now) z.result w.field-0 z.ensures w.was c.if-store-device.false c.if-image-upload.true)

pub returns : goal.returns
unfolding load_stop_told
returns c =
    let a = c.args in
    let s = load_state a.upload.now a.device.now a.store.now in
    let z = c.flash_sectors in
    let w = c.in_ok-flash_sectors in
    sym (by_none refused (given tt) s (length a.flash.now) (length a.image.now) z.result w.field-0 z.ensures w.was c.if-store-device.false c.if-image-upload.false)
