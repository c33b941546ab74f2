-- An order of refusals: a list of rules in their order, of which the first that is broken is the answer.
use Rattle.std.specs.Prelude.{ℕ, Bool, true, false, List, [], ◌∷◌, ltb}
use Rattle.promise.specs.Told.{Told, refused}

-- a or b, by a test
abbrev pub pick : {A : Type 0} → Bool → A → A → A
pick true a b = a
pick false a b = b

-- when it is broken, and the number and values that then come back
pub record Rule : Type 0 where
  pub broken : Bool
  pub number : ℕ
  pub values : List ℕ

-- one line of the table of refusals
abbrev pub rule : Bool → ℕ → List ℕ → Rule
rule b n vs = record { broken = b; number = n; values = vs }

-- what `refuse` makes of the first broken rule's number and values, or `done` where none is broken
unfoldable pub or_refuse : {A : Type 0} → (ℕ → List ℕ → A) → List Rule → A → A
or_refuse refuse [] done = done
or_refuse refuse (r ∷ rules) done = pick r.broken (refuse r.number r.values) (or_refuse refuse rules done)

-- the same, where what comes of it is what is told
abbrev pub unless : {A : Type 0} → List Rule → Told A → Told A
unless rules answer = or_refuse refused rules answer

-- 20: "output too short"
abbrev pub too_short : ℕ
too_short = 20

abbrev pub room_rule : ℕ → ℕ → Rule
room_rule room wanted = rule (ltb room wanted) too_short []

-- 27: "lent data differs"
abbrev pub differs : ℕ
differs = 27

abbrev pub lent_rule : Bool → Rule
lent_rule other = rule other differs []
