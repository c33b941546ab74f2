-- The run at the device that is made, told as the number of its verdict and the counts of its transfer.
use mathlib.Core.Path.{sym, ◌∙◌}
use Rattle.deck.proofs.VerdictUnique.{verdict_number}
use Rattle.ffi.proofs.SectorsTold.{ran_at}
use Rattle.ffi.proofs.sectors.read_on.Goals as goal

pub returns : goal.returns
returns c =
    let a = c.args in
    let run = c.run_whole-ran in
    let v = c.operated-told in
    let d = c.fresh_device in
    ran_at a.operation d.result a.flash.now a.«data».now a.counts.now d.ensures run.result v.result c.number.result run.new.flash
    run.new.data c.counts_after.result run.ensures v.ensures (c.counts_after.ensures v.result.beside) (c.number.ensures ∙ sym (verdict_number v.result.verdict v.result.beside))
