-- What somebody sees who rechecks a deck chunk by chunk.
use Rattle.std.specs.Prelude.{ℕ, List, [], ◌∷◌, ◌++◌, take}
use Rattle.deck_recheck.specs.declared.Recheck.{Recheck}
use Rattle.deck_recheck.specs.declared.RecheckStep.{RecheckStep}
use Rattle.deck_recheck.specs.Recheck.{standing, recheck_all, RecheckMeets}

-- any caller of `recheck_chunk` who lends these chunks in this order: what is to be written of them, joined, and the deck behind them
pub data Rechecks : Recheck → List (List ℕ) → List ℕ → Recheck → Type 0 where
  no_more : (d : Recheck) → Rechecks d [] [] d
  a_chunk : (d : Recheck) (chunk : List ℕ) (r : RecheckStep) (after : List ℕ) (chunks : List (List ℕ)) (out : List ℕ) (end : Recheck)
      → RecheckMeets r after chunk (recheck_all chunk (standing d)) → Rechecks r.recheck chunks out end
      → Rechecks d (chunk ∷ chunks) (take r.bytes after ++ out) end
