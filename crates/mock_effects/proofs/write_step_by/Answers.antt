-- 60 and 61 first, keeping everything; then the outcome that the table has, whose effect fits the flash, is applied.
use Prim.Native.Nat.{ℕ, ◌/◌}
use mathlib.Core.Path.{ap, ap₂, ◌∙◌}
use lib.ListN.{length}
use Rattle.promise.specs.Told.{Told}
use Rattle.protocol_bytes.specs.Sector.{sector_size}
use Rattle.mock_table.specs.Turn.{EffectFits}
use Rattle.mock_table.specs.declared.outcome.Effect.{Effect}
use Rattle.mock_table.proofs.Sane.{write_sane}
use Rattle.mock_effects.specs.Effects.{flash_after, pending_after}
use Rattle.mock_effects.specs.Steps.{pended, write_step_by, write_step_of}
use Rattle.mock_effects.proofs.Lengths.{whole, kept, taken}
use Rattle.mock_effects.proofs.write_step_by.Goals as goal

pub returns-in_default : goal.returns-in_default
unfolding write_step_by write_step_of
returns-in_default c =
    let f = c.flash_sectors-size in
    kept f.result (length c.args.flash.now) f.ensures c.args.session c.args.flash.now c.in_default.field-0
    c.in_default.is c.size_answer.result c.size_answer.ensures
    (λ number values h. ap (λ (t : Told ℕ). write_step_of t c.args.variety c.args.block_size c.args.session c.args.flash.now c.args.«data».now) h)

pub apply_to_flash-pending-requires : goal.apply_to_flash-pending-requires
apply_to_flash-pending-requires c =
    let sectors = c.in-Ok.sectors in
    let f = c.flash_sectors-size in
    let h = taken (length c.args.flash.now) sectors (whole f.result (length c.args.flash.now) f.ensures sectors c.in-Ok.is) in
    let fits : EffectFits (length c.args.flash.now / sector_size) (length c.args.«data».now) c.write_outcome-outcome.result.effect =
    rw (h.0, c.write_outcome-outcome.ensures.effect) (write_sane c.args.variety c.args.block_size c.args.session sectors c.args.«data».now).fits in
    fits

pub returns : goal.returns
unfolding write_step_by write_step_of
returns c =
    let sectors = c.in-Ok.sectors in
    let f = c.flash_sectors-size in
    let m = c.write_outcome-outcome.ensures in
    let p = c.apply_to_flash-pending.ensures in
    let bytes = c.args.«data».now in
    let flash = c.args.flash.now in
    rw (whole f.result (length c.args.flash.now) f.ensures sectors c.in-Ok.is)
    (record {
      tells = m.tells;
      next = c.pended.ensures ∙ ap₂ pended (p.0 ∙ ap (λ (x : Effect). pending_after x bytes flash) m.effect) m.next;
      leaves = p.1 ∙ ap (λ (x : Effect). flash_after x bytes flash) m.effect;
    })
