-- What comes of a call, and the shape of a promise.
use Rattle.std.specs.Prelude.{ℕ, ◌≡◌, List, []}
use Rattle.promise.specs.Told.{Told, given, refused}
use Rattle.promise.specs.Bytes.{front}

-- what it says, the bytes that it puts at the front of the output, and the record that it hands back
pub record Does (A R : Type 0) : Type 0 where
  pub says : A
  pub sends : List ℕ
  pub becomes : R

abbrev pub does : {A R : Type 0} → A → List ℕ → R → Does A R
does a bs r = record { says = a; sends = bs; becomes = r }

unfoldable pub said : {A R : Type 0} → Told (Does A R) → Told A
said (given d) = given d.says
said (refused n vs) = refused n vs

-- "A refusal writes no lent buffer"
unfoldable pub sent : {A R : Type 0} → Told (Does A R) → List ℕ
sent (given d) = d.sends
sent (refused n vs) = []

-- "and changes no record"
unfoldable pub after : {A R : Type 0} → R → Told (Does A R) → R
after self (given d) = d.becomes
after self (refused n vs) = self

-- what the answer tells, the record handed back, and every byte of the output
pub record Meets {A R : Type 0} (told : Told A) (back : R) (before now : List ℕ) (self : R) (step : Told (Does A R)) : Type 0 where
  pub tells : told ≡ said step
  pub next : back ≡ after self step
  pub leaves : now ≡ front (sent step) before

-- what comes of a call on lent bytes, refused or not: what is told, the next record, and the bytes lent mutably as they are left
pub record Comes (A R : Type 0) : Type 0 where
  pub told : Told A
  pub next : R
  pub leaves : List ℕ

-- the same where a call puts bytes at the front of what it is lent and leaves every other byte
pub record Puts (A R : Type 0) : Type 0 where
  pub told : Told A
  pub sent : List ℕ
  pub next : R
