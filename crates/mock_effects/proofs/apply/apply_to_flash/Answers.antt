-- Each arm is the case of the definition; an effect that fits lies in the flash.
use Prim.Native.Nat.{◌/◌}
use mathlib.Core.Path.{◌≡◌, refl, ap, sym, ◌∙◌, subst}
use mathlib.Core.Logic.{⊎_elim}
use Rattle.protocol_codes.specs.declared.Status.TheVariants.{SUCCESS}
use native.Mathlib.Omega.{arith}
use lib.ListN.{length}
use Rattle.protocol_bytes.specs.Sector.{sector_size}
use Rattle.mock_table.specs.Turn.{EffectFits}
use Rattle.mock_table.specs.declared.outcome.Effect.{Effect}
use Rattle.mock_table.specs.declared.outcome.Effect.TheVariants.{Fill, Store, Program}
use Rattle.mock_effects.specs.Effects.{flash_after, pending_after}
use Rattle.mock_effects.proofs.apply.apply_to_flash.Goals as goal

pub erase-requires : goal.erase-requires
unfolding EffectFits
erase-requires c =
    let fits : EffectFits (length c.args.flash.now / sector_size) (length c.args.«data».now) (Fill c.in-Fill.range) =
    subst (λ (x : Effect). EffectFits (length c.args.flash.now / sector_size) (length c.args.«data».now) x) c.in-Fill.is c.requires in
    omega (arith, fits)

pub store-requires : goal.store-requires
unfolding EffectFits
store-requires c =
    let fits : EffectFits (length c.args.flash.now / sector_size) (length c.args.«data».now) (Store c.in-Store.range) =
    subst (λ (x : Effect). EffectFits (length c.args.flash.now / sector_size) (length c.args.«data».now) x) c.in-Store.is c.requires in
    omega (arith, fits.0, fits.1)

pub program-requires : goal.program-requires
unfolding EffectFits
program-requires c =
    let fits : EffectFits (length c.args.flash.now / sector_size) (length c.args.«data».now) (Program c.in-Program.range) =
    subst (λ (x : Effect). EffectFits (length c.args.flash.now / sector_size) (length c.args.«data».now) x) c.in-Program.is c.requires in
    omega (arith, fits.0, fits.1)

pub returns-in-Fill : goal.returns-in-Fill
unfolding flash_after pending_after
returns-in-Fill c =
    let a = c.args in
    let e = sym c.in-Fill.is in
    (ap (λ (x : Effect). pending_after x a.«data».now a.flash.now) e, c.erase.ensures ∙ ap (λ (x : Effect). flash_after x a.«data».now a.flash.now) e)

pub returns-in-Store : goal.returns-in-Store
unfolding flash_after pending_after
returns-in-Store c =
    let a = c.args in
    let e = sym c.in-Store.is in
    (ap (λ (x : Effect). pending_after x a.«data».now a.flash.now) e, c.store.ensures ∙ ap (λ (x : Effect). flash_after x a.«data».now a.flash.now) e)

pub returns-in-Program : goal.returns-in-Program
unfolding flash_after pending_after
returns-in-Program c =
    let a = c.args in
    let e = sym c.in-Program.is in
    let p = c.program.ensures in
    (p.0 ∙ ap (λ (x : Effect). pending_after x a.«data».now a.flash.now) e, p.1 ∙ ap (λ (x : Effect). flash_after x a.«data».now a.flash.now) e)

pub returns-in-Nothing : goal.returns-in-Nothing
unfolding flash_after pending_after
returns-in-Nothing c =
    let a = c.args in
    let stays : (e : Effect) → a.effect ≡ e → (pending_after e a.«data».now a.flash.now ≡ SUCCESS) × (flash_after e a.«data».now a.flash.now ≡ a.flash.now)
    → (SUCCESS ≡ pending_after a.effect a.«data».now a.flash.now) × (a.flash.now ≡ flash_after a.effect a.«data».now a.flash.now) =
    λ x e s. (
      sym s.0 ∙ ap (λ (x : Effect). pending_after x a.«data».now a.flash.now) (sym e),
      sym s.1 ∙ ap (λ (x : Effect). flash_after x a.«data».now a.flash.now) (sym e),
    ) in
    ⊎_elim (λ e. stays _ e (refl, refl)) (⊎_elim (λ e. stays _ e.1 (refl, refl)) (λ e. stays _ e.1 (refl, refl))) c.in-Nothing.is
