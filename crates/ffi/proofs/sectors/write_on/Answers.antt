-- As `read_on`, with data that is only lent.
use mathlib.Core.List.{[]}
use Rattle.run_turn.specs.Turn.{lent_to}
use mathlib.Core.Path.{sym, ◌∙◌}
use Rattle.deck.proofs.VerdictUnique.{verdict_number}
use Rattle.ffi.proofs.SectorsTold.{ran_at}
use Rattle.ffi.proofs.sectors.write_on.Goals as goal

pub returns : goal.returns
returns c =
    let a = c.args in
    let run = c.run_whole_write-ran in
    let v = c.operated-told in
    let d = c.fresh_device in
    let bytes = lent_to a.operation.kind a.«data».now [] in
    ran_at a.operation d.result a.flash.now bytes a.counts.now d.ensures run.result v.result c.number.result run.new.flash bytes
    c.counts_after.result run.ensures v.ensures (c.counts_after.ensures v.result.beside) (c.number.ensures ∙ sym (verdict_number v.result.verdict v.result.beside))
