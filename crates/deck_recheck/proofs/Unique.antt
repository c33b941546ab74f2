-- Two steps that the contract allows are equal, and so are the chunks that they leave.
use Rattle.std.proofs.Common.{◌≡◌, ℕ, eqb, List, sym, refl, ap, ◌∙◌, ap₂}
use Rattle.std.specs.Prelude.{Option}
use Rattle.std.specs.declared.option.Option.TheVariants.{Some, None}
use Rattle.promise.specs.Told.{Told, given, refused, number}
use Rattle.promise.specs.Rules.{pick}
use Rattle.deck_recheck.specs.declared.Stop.{Stop}
use Rattle.deck_recheck.specs.declared.Stop.TheVariants.{BadCheck, Short}
use Rattle.deck_recheck.specs.declared.Recheck.{Recheck}
use Rattle.deck_recheck.specs.declared.RecheckStep.{RecheckStep}
use Rattle.deck_recheck.specs.Recheck.{stop_number, stop_told, Standing, standing, Written, RecheckMeets}

-- the number tells what has stopped a deck
stop_from : Told Unit → Option Stop
stop_from (given done) = None
stop_from (refused n values) = pick (eqb n 40) (Some BadCheck) (Some Short)

stop_from_lem : (stop : Option Stop) (number : ℕ) → stop_from (stop_told stop number) ≡ stop
unfolding stop_from stop_told
stop_from_lem None number = refl
stop_from_lem (Some BadCheck) number = refl
stop_from_lem (Some Short) number = refl

recheck_from : Standing → Recheck
recheck_from s = record { number = s.number; tag = s.tag; stop = stop_from s.told }

recheck_from_lem : (r : Recheck) → recheck_from (standing r) ≡ r
unfolding recheck_from
recheck_from_lem r = ap (λ (stop : Option Stop). record { number = r.number; tag = r.tag; stop = stop }) (stop_from_lem r.stop r.number)

pub recheck_unique : (r s : RecheckStep) (after₁ after₂ before : List ℕ) (w : Written) → RecheckMeets r after₁ before w → RecheckMeets s after₂ before w
    → (r ≡ s) × (after₁ ≡ after₂)
recheck_unique r s after₁ after₂ before w p q = (
  ap₂ (λ (n : ℕ) (d : Recheck). record { bytes = n; recheck = d }) (p.bytes ∙ sym q.bytes)
      (sym (recheck_from_lem r.recheck) ∙ ap recheck_from (p.next ∙ sym q.next) ∙ recheck_from_lem s.recheck),
  p.leaves ∙ sym q.leaves,
)

-- the number of what stops a deck is the number of what it tells
pub stop_told_number : (stop : Stop) (k : ℕ) → number (stop_told (Some stop) k) ≡ stop_number stop
unfolding number stop_told
stop_told_number BadCheck k = refl
stop_told_number Short k = refl
