-- Nothing has no number, and what stops a deck has its own.
use Rattle.std.proofs.Common.{sym, ap, ◌∙◌}
use Rattle.std.specs.Prelude.{Option}
use Rattle.promise.specs.Told.{number}
use Rattle.deck_recheck.specs.declared.Stop.{Stop}
use Rattle.deck_recheck.specs.Recheck.{stop_told}
use Rattle.deck_recheck.proofs.Unique.{stop_told_number}
use Rattle.deck_recheck.proofs.stop_number.Goals as goal

pub returns-in-None : goal.returns-in-None
unfolding number stop_told
returns-in-None c k = sym (ap (λ (s : Option Stop). number (stop_told s k)) c.in-None.is)

pub returns-in-Some : goal.returns-in-Some
returns-in-Some c k =
    c.number.ensures ∙ sym (stop_told_number c.in-Some.stop k) ∙ sym (ap (λ (s : Option Stop). number (stop_told s k)) c.in-Some.is)
