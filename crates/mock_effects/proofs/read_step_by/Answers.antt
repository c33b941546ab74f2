-- 60 and 61 first, keeping everything; then the outcome that the table has, whose effect fits the flash, is applied.
use Prim.Native.Nat.{ℕ, ◌/◌}
use mathlib.Core.Path.{ap, ◌∙◌}
use native.Mathlib.Omega.{arith}
use lib.ListN.{length}
use Rattle.promise.specs.Told.{Told}
use Rattle.protocol_bytes.specs.Sector.{sector_size}
use Rattle.mock_table.specs.Turn.{EffectFits}
use Rattle.mock_table.specs.declared.outcome.Effect.{Effect}
use Rattle.mock_table.proofs.Sane.{read_sane}
use Rattle.mock_effects.specs.Effects.{buffer_after}
use Rattle.mock_effects.specs.Steps.{read_step_by, read_step_of}
use Rattle.mock_effects.proofs.Lengths.{whole, kept, taken}
use Rattle.mock_effects.proofs.read_step_by.Goals as goal

pub returns-in_default : goal.returns-in_default
unfolding read_step_by read_step_of
returns-in_default c =
    let f = c.flash_sectors-size in
    kept f.result (length c.args.flash.now) f.ensures c.args.session c.args.«data».now c.in_default.field-0
    c.in_default.is c.size_answer.result c.size_answer.ensures
    (λ number values h. ap (λ (t : Told ℕ). read_step_of t c.args.variety c.args.session c.args.config c.args.flash.now c.args.«data».now) h)

pub apply_to_buffer-requires : goal.apply_to_buffer-requires
apply_to_buffer-requires c =
    let sectors = c.in-Ok.sectors in
    let f = c.flash_sectors-size in
    let h = taken (length c.args.flash.now) sectors (whole f.result (length c.args.flash.now) f.ensures sectors c.in-Ok.is) in
    let fits : EffectFits (length c.args.flash.now / sector_size) (length c.args.«data».now) c.read_outcome-outcome.result.effect =
    rw (h.0, c.read_outcome-outcome.ensures.effect) (read_sane c.args.variety c.args.session sectors (length c.args.«data».now)).fits in
    (omega (arith, h.0, h.1), fits)

pub returns : goal.returns
unfolding read_step_by read_step_of
returns c =
    let sectors = c.in-Ok.sectors in
    let f = c.flash_sectors-size in
    let m = c.read_outcome-outcome.ensures in
    rw (whole f.result (length c.args.flash.now) f.ensures sectors c.in-Ok.is)
    (record {
      tells = m.tells;
      next = m.next;
      leaves = c.apply_to_buffer.ensures ∙ ap (λ (x : Effect). buffer_after c.args.config x c.args.flash.now c.args.«data».now) m.effect;
    })
