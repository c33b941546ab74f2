-- Data that is no sectors is refused with the number that its count tells; else the run's own answer, flash, data and counts.
use mathlib.Core.Path.{ap, sym, subst, ◌∙◌}
use lib.ListN.{length}
use Rattle.protocol_reply.specs.Sectors.{sector_told}
use Rattle.ffi.specs.Sectors.{Carried, SectorsMeet, reading}
use Rattle.ffi.proofs.SectorsTold.{carries_refused, carries_run}
use Rattle.ffi.proofs.sectors.read_sectors.Goals as goal

pub returns-in-Err : goal.returns-in-Err
returns-in-Err c =
    let a = c.args in
    let s = c.read_lba-start.ensures in
    let none = carries_refused (reading a.first) a.flash.now a.«data».now a.counts.now c.in-Err.refusal (length a.«data».now) (sym (ap sector_told c.in-Err.is) ∙ s.tells) in
    record {
      tells = c.number.ensures ∙ ap (λ (x : Carried). x.number) none;
      flash = ap (λ (x : Carried). x.flash) none;
      leaves = ap (λ (x : Carried). x.«data») none;
      counts = ap (λ (x : Carried). x.counts) none;
    }

pub returns : goal.returns
returns c =
    let s = c.read_lba-start in
    let a = c.args in
    let run = c.read_on in
    subst (λ (x : Carried). SectorsMeet run.result run.new.flash run.new.data run.new.counts x)
    (carries_run (reading a.first) a.flash.now a.«data».now a.counts.now c.in_default.field-0 (length a.«data».now) s.result.operation
    (sym (ap sector_told c.in_default.is) ∙ s.ensures.tells) s.ensures.operation)
    run.ensures
