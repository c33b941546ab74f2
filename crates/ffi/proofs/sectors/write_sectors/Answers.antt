-- As `read_sectors`; an operation that writes is lent the data itself.
use Prim.Native.Nat.{ℕ}
use mathlib.Core.Path.{◌≡◌, ap, sym, subst, ◌∙◌}
use mathlib.Core.List.{List, []}
use lib.ListN.{length}
use Rattle.protocol_reply.specs.Sectors.{sector_told}
use Rattle.run_turn.specs.Turn.{is_write, lent_to}
use Rattle.operation.specs.declared.steps.UsbOperation.{UsbOperation}
use Rattle.ffi.specs.Sectors.{Carried, SectorsMeet, run_at, writing}
use Rattle.ffi.proofs.SectorsTold.{carries_refused, carries_run}
use Rattle.ffi.proofs.sectors.write_sectors.Goals as goal

pub returns-in-Err : goal.returns-in-Err
returns-in-Err c =
    let a = c.args in
    let s = c.write_lba-start.ensures in
    let none = carries_refused (writing a.first) a.flash.now a.«data».now a.counts.now c.in-Err.refusal (length a.«data».now) (sym (ap sector_told c.in-Err.is) ∙ s.tells) in
    record {
      tells = c.number.ensures ∙ ap (λ (x : Carried). x.number) none;
      flash = ap (λ (x : Carried). x.flash) none;
      leaves = ap (λ (x : Carried). x.«data») none;
      counts = ap (λ (x : Carried). x.counts) none;
    }

pub returns : goal.returns
unfolding is_write
returns c =
    let s = c.write_lba-start in
    let a = c.args in
    let run = c.write_on in
    let same : lent_to s.result.operation.kind a.«data».now [] ≡ a.«data».now =
    ap (λ (o : UsbOperation). lent_to o.kind a.«data».now []) s.ensures.operation in
    subst (λ (x : Carried). SectorsMeet run.result run.new.flash a.«data».now run.new.counts x)
    (carries_run (writing a.first) a.flash.now a.«data».now a.counts.now c.in_default.field-0 (length a.«data».now) s.result.operation
    (sym (ap sector_told c.in_default.is) ∙ s.ensures.tells) s.ensures.operation)
    (subst (λ (l : List ℕ). SectorsMeet run.result run.new.flash l run.new.counts (run_at s.result.operation a.flash.now l a.counts.now)) same run.ensures)
