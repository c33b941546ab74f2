-- The length of the flash tells which: 60 and 61 keep the record, a whole flash makes it anew.
use Prim.Native.Nat.{ℕ}
use mathlib.Core.Path.{ap, refl}
use mathlib.Core.List.{[]}
use lib.ListN.{length}
use Rattle.promise.specs.Told.{Told, and_then}
use Rattle.mock_base.specs.Flash.{size_told, size_done}
use Rattle.mock_effects.proofs.Lengths.{whole, kept}
use Rattle.mock_session.specs.Start.{start_step, start_step_of}
use Rattle.mock_session.proofs.record.start_step.Goals as goal

pub returns-in-Ok : goal.returns-in-Ok
unfolding start_step start_step_of size_done size_told and_then
returns-in-Ok c =
    let n = length c.args.flash.now in
    let f = c.flash_sectors-size in
    rw (whole f.result n f.ensures c.in-Ok.field-0 c.in-Ok.is)
    (record { tells = rw c.in-Ok.is at c.size_answer-answer.ensures; next = c.fresh.ensures; leaves = refl })

pub returns-in-Err : goal.returns-in-Err
unfolding start_step start_step_of
returns-in-Err c =
    let a = c.args in
    let f = c.flash_sectors-size in
    kept f.result (length a.flash.now) f.ensures a.session [] c.in-Err.field-0 c.in-Err.is c.size_answer-answer.result c.size_answer-answer.ensures
    (λ number values h. ap (λ (t : Told ℕ). start_step_of t a.session) h)
