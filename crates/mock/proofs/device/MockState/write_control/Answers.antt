-- 65 and 51 in this order, then the append, put back into the record.
use mathlib.Core.Path.{◌≡◌, refl, ap, sym, ◌∙◌}
use mathlib.Core.List.{[], ◌∷◌}
use lib.ListN.{length}
use native.Mathlib.Omega.{arith}
use borrow.Author.Tests.{eq-eqb, ne_eqb}
use Rattle.promise.specs.Told.{refused}
use Rattle.promise.specs.Rules.{or_refuse}
use Rattle.mock_base.specs.Told.{error_values}
use Rattle.mock_base.specs.declared.error.MockTransportError.TheVariants.{UnsupportedControl, StoreLength}
use Rattle.mock_base.proofs.Telling.{answers_error}
use Rattle.mock.specs.Device.{control_rules, write_control, with_areas}
use Rattle.mock.proofs.Appended.{area_answers}
use Rattle.mock.proofs.device.MockState.write_control.Goals as goal

pub returns-then-store-self : goal.returns-then-store-self
unfolding write_control control_rules or_refuse error_values
returns-then-store-self c =
    let a = c.args in
    rw (c.refused.ensures, ne_eqb (length a.store.now) a.self.store_length c.if-store-self.true)
    (record { tells = answers_error StoreLength (refused 65 []) refl; next = refl; leaves = refl })

pub returns-then-not-is_upload : goal.returns-then-not-is_upload
unfolding write_control control_rules or_refuse error_values
returns-then-not-is_upload c =
    let a = c.args in
    let u = c.is_upload in
    let same_length : length a.store.now ≡ a.self.store_length = omega arith in
    let values = a.request_type ∷ a.request ∷ a.value ∷ [] in
    rw (
      c.refused-then-not-is_upload.ensures,
      eq-eqb (length a.store.now) a.self.store_length same_length,
      sym u.ensures ∙ c.if-not-is_upload.true,
    )
    (record { tells = answers_error (UnsupportedControl a.request_type a.request a.value) (refused 51 values) refl; next = refl; leaves = refl })

pub returns : goal.returns
unfolding write_control control_rules or_refuse
returns c =
    let a = c.args in
    let u = c.is_upload in
    let same_length : length a.store.now ≡ a.self.store_length = omega arith in
    let m = c.append.ensures in
    rw (
      c.after_areas.ensures,
      eq-eqb (length a.store.now) a.self.store_length same_length,
      sym u.ensures ∙ c.if-not-is_upload.false,
    )
    (record { tells = area_answers c.append.result.answer m.tells; next = ap (with_areas a.self) m.next; leaves = m.leaves })
