-- 60 and 61 as at every creation, then the block size.
use mathlib.Core.Path.{refl, sym, subst}
use mathlib.Core.List.{[]}
use borrow.Author.Tests.{eq-eqb, ne_eqb}
use Rattle.promise.specs.Told.{Told, refused}
use Rattle.promise.specs.Rules.{or_refuse}
use Rattle.mock_base.specs.Told.{error_values, Answers}
use Rattle.mock_base.specs.declared.cells.Variety.TheVariants.{Nor}
use Rattle.mock_base.specs.declared.error.MockTransportError.TheVariants.{ZeroBlockSize}
use Rattle.mock_base.proofs.Telling.{answers_error, answers_done}
use Rattle.mock.specs.Device.{block_rules}
use Rattle.mock.proofs.Creating.{told_short, told_whole}
use Rattle.mock.proofs.device.nor_answer.Goals as goal

pub returns-in_default : goal.returns-in_default
returns-in_default c =
    let f = c.flash_sectors-size in
    let a = c.args in
    subst (λ (t : Told Unit). Answers c.size_answer.result t) (sym (told_short Nor a.block_size a.length f.result f.ensures c.in_default.field-0 c.in_default.is)) c.size_answer.ensures

pub returns-then-block_size-eq0 : goal.returns-then-block_size-eq0
unfolding block_rules or_refuse error_values
returns-then-block_size-eq0 c =
    let f = c.flash_sectors-size in
    let a = c.args in
    rw (told_whole Nor a.block_size a.length f.result f.ensures c.in-Ok.field-0 c.in-Ok.is, eq-eqb a.block_size 0 c.if-block_size-eq0.true)
    (answers_error ZeroBlockSize (refused 62 []) refl)

pub returns : goal.returns
unfolding block_rules or_refuse
returns c =
    let f = c.flash_sectors-size in
    let a = c.args in
    rw (told_whole Nor a.block_size a.length f.result f.ensures c.in-Ok.field-0 c.in-Ok.is, ne_eqb a.block_size 0 c.if-block_size-eq0.false) answers_done
