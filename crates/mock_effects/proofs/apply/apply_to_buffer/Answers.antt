-- Each arm is the case of the definition; an effect that fits lies in the flash and has the size of the buffer.
use Prim.Native.Nat.{◌/◌}
use mathlib.Core.Path.{◌≡◌, refl, ap, sym, ◌∙◌, subst}
use mathlib.Core.Logic.{⊎_elim}
use native.Mathlib.Omega.{arith}
use lib.ListN.{length}
use Rattle.protocol_bytes.specs.Sector.{sector_size}
use Rattle.mock_table.specs.Turn.{EffectFits}
use Rattle.mock_table.specs.declared.outcome.Effect.{Effect}
use Rattle.mock_table.specs.declared.outcome.Effect.TheVariants.{Supply}
use Rattle.mock_effects.specs.Effects.{buffer_after}
use Rattle.mock_effects.proofs.apply.apply_to_buffer.Goals as goal

pub supply-requires : goal.supply-requires
unfolding EffectFits
supply-requires c =
    let fits : EffectFits (length c.args.flash.now / sector_size) (length c.args.«data».now) (Supply c.in-Supply.range) =
    subst (λ (x : Effect). EffectFits (length c.args.flash.now / sector_size) (length c.args.«data».now) x) c.in-Supply.is c.requires.1 in
    (omega (arith, fits.0), omega (arith, fits.1))

pub reply-requires : goal.reply-requires
unfolding EffectFits
reply-requires c =
    subst (λ (x : Effect). EffectFits (length c.args.flash.now / sector_size) (length c.args.«data».now) x) c.in-Reply.is c.requires.1

pub returns-in-Supply : goal.returns-in-Supply
unfolding buffer_after
returns-in-Supply c =
    let a = c.args in
    c.supply.ensures ∙ ap (λ (x : Effect). buffer_after a.config x a.flash.now a.«data».now) (sym c.in-Supply.is)

pub returns-in-Reply : goal.returns-in-Reply
unfolding buffer_after
returns-in-Reply c =
    let a = c.args in
    c.reply.ensures ∙ ap (λ (x : Effect). buffer_after a.config x a.flash.now a.«data».now) (sym c.in-Reply.is)

pub returns-in-Nothing : goal.returns-in-Nothing
unfolding buffer_after
returns-in-Nothing c =
    let a = c.args in
    let stays : (e : Effect) → a.effect ≡ e → buffer_after a.config e a.flash.now a.«data».now ≡ a.«data».now
    → a.«data».now ≡ buffer_after a.config a.effect a.flash.now a.«data».now =
    λ x e s. sym s ∙ ap (λ (x : Effect). buffer_after a.config x a.flash.now a.«data».now) (sym e) in
    ⊎_elim (λ e. stays _ e refl) (⊎_elim (λ e. stays _ e.1 refl) (⊎_elim (λ e. stays _ e.1 refl) (λ e. stays _ e.1 refl))) c.in-Nothing.is
