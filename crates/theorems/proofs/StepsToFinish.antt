-- Stepping to the finish: what a record sends, and how many calls it takes.
use Prim.Native.Nat.{ℕ, zero, suc, ◌<◌, ◌≤◌}
use mathlib.Core.Path.{◌≡◌, refl, ap, ◌∙◌}
use mathlib.Core.List.{List, [], ◌∷◌}
use native.Mathlib.Omega.{arith}
use lib.ListN.{length, length-append, length-drop}
use Rattle.promise.specs.Told.{Told, given}
use Rattle.promise.specs.Bytes.{front}
use Rattle.promise.specs.Does.{Does, does, said, sent, after}
use Rattle.maskrom.specs.Answers.{control, Asks, writes, finish}
use Rattle.maskrom.proofs.Writes.{front_seen}
use Rattle.theorems.specs.PartDriver.{Transfer, transfer, ended, unending, sending, on_step, step_through}

-- stepping `r` sends these and then finishes, with any output that is long enough
pub data Sends {R : Type 0} (step : R → ℕ → Told (Does Asks R)) : R → List Transfer → Type 0 where
  finishes : (r r' : R) → ((room : ℕ) → 4096 ≤ room → step r room ≡ given (does finish [] r')) → Sends step r []
  sends : (r r' : R) (area : ℕ) (bs : List ℕ) (ts : List Transfer) → length bs ≤ 4096
      → ((room : ℕ) → 4096 ≤ room → step r room ≡ given (does (writes (control area (length bs))) bs r')) → Sends step r' ts
      → Sends step r (transfer area bs ∷ ts)

-- the output stays long enough
pub front_room : (bs out : List ℕ) → length bs ≤ 4096 → 4096 ≤ length out → 4096 ≤ length (front bs out)
front_room bs out b h = simp (length-append, length-drop) (omega arith)

module _ {R : Type 0} (step : R → ℕ → Told (Does Asks R)) where
  pub one_step : (k : ℕ) (r r' : R) (area : ℕ) (bs out : List ℕ)
      → step r (length out) ≡ given (does (writes (control area (length bs))) bs r')
      → step_through step (suc k) r out ≡ sending (transfer area bs) (step_through step k r' (front bs out))
  unfolding step_through on_step said sent after
  one_step k r r' area bs out e = rw (e, front_seen bs out)

  pub last_step : (k : ℕ) (r r' : R) (out : List ℕ) → step r (length out) ≡ given (does finish [] r')
      → step_through step (suc k) r out ≡ ended []
  unfolding step_through on_step said
  last_step k r r' out e = rw e

  -- one call for each transfer and one for the finish are enough ..
  pub enough : (k : ℕ) (r : R) (ts : List Transfer) (out : List ℕ) → Sends step r ts → 4096 ≤ length out → length ts < k
      → step_through step k r out ≡ ended ts
  unfolding sending
  enough zero r ts out s h n = absurd (omega arith)
  enough (suc k) r ts out (finishes r₁ r₂ e) h n = last_step k r₁ r₂ out (e (length out) h)
  enough (suc k) r ts out (sends r₁ r₂ area bs us b e s) h n =
      one_step k r₁ r₂ area bs out (e (length out) h)
      ∙ ap (sending (transfer area bs)) (enough k r₂ us (front bs out) s (front_room bs out b h) (omega arith))

  -- .. and fewer are not
  pub needed : (k : ℕ) (r : R) (ts : List Transfer) (out : List ℕ) → Sends step r ts → 4096 ≤ length out → k ≤ length ts
      → step_through step k r out ≡ unending
  unfolding sending step_through
  needed zero r ts out s h n = refl
  needed (suc k) r ts out (finishes r₁ r₂ e) h n = absurd (omega arith)
  needed (suc k) r ts out (sends r₁ r₂ area bs us b e s) h n =
      one_step k r₁ r₂ area bs out (e (length out) h)
      ∙ ap (sending (transfer area bs)) (needed k r₂ us (front bs out) s (front_room bs out b h) (omega arith))
