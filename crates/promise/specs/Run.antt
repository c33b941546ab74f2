-- A run with a budget, by recursion on the budget. A turn is one step call and the transfer that it asks for.
use Rattle.std.specs.Prelude.{ℕ, zero, suc, ◌+◌, []}
use Rattle.promise.specs.Told.{Told, refused}

-- what a turn comes to: the last of the run, with what is told, or one more to follow
pub data Turned (A S : Type 0) : Type 0 where
  ends : Told A → S → Turned A S
  goes : S → Turned A S

-- what a run ends with
pub data End (A : Type 0) : Type 0 where
  tells : Told A → End A
  out_of_steps : End A

-- 28, out of steps: "budget used before a finish or refusal"
abbrev pub steps_used : ℕ
steps_used = 28

unfoldable pub end_told : {A : Type 0} → End A → Told A
end_told (tells told) = told
end_told out_of_steps = refused steps_used []

-- the end, the number of its own step calls, and everything as the last of them left it
pub record Ran (A S : Type 0) : Type 0 where
  pub end : End A
  pub steps : ℕ
  pub state : S

abbrev pub ran : {A S : Type 0} → End A → ℕ → S → Ran A S
ran end steps s = record { end = end; steps = steps; state = s }

-- the same run, after k steps before it
abbrev pub counted : {A S : Type 0} → ℕ → Ran A S → Ran A S
counted k r = ran r.end (k + r.steps) r.state

unfoldable pub follow : {A S : Type 0} → Turned A S → (S → Ran A S) → Ran A S
follow (ends told s) rest = ran (tells told) 1 s
follow (goes s) rest = counted 1 (rest s)

-- "A budgeted run counts its own steps", "the refused one included in its count"
unfoldable pub runs : {A S : Type 0} → (S → Turned A S) → ℕ → S → Ran A S
runs turn zero s = ran out_of_steps 0 s
runs turn (suc budget) s = follow (turn s) (λ next. runs turn budget next)
