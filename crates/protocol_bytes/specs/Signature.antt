-- The signatures of the two blocks, and what stands beside an answer that may refuse one.
use Rattle.std.specs.Prelude.{ℕ, Bool, true, false, List, [], ◌∷◌, eqb, Result}
use Rattle.promise.specs.Told.{Told, given, refused}
use Rattle.promise.specs.Rules.{pick}
use Rattle.protocol_bytes.specs.declared.signature.Parse.{Parse}

-- `USBC`
abbrev pub usbc : List ℕ
usbc = 0x55 ∷ 0x53 ∷ 0x42 ∷ 0x43 ∷ []

-- `USBS`
abbrev pub usbs : List ℕ
usbs = 0x55 ∷ 0x53 ∷ 0x42 ∷ 0x53 ∷ []

-- whether two lists of bytes are the same
unfoldable pub same : List ℕ → List ℕ → Bool
same [] [] = true
same [] (b ∷ bs) = false
same (a ∷ rest) [] = false
same (a ∷ rest) (b ∷ bs) = pick (eqb a b) (same rest bs) false

-- what stands where there is no signature to tell
abbrev pub no_signature : List ℕ
no_signature = 0 ∷ 0 ∷ 0 ∷ 0 ∷ []

-- the signature that this refusal tells, zeros where anything else is told
unfoldable pub signature_in : {A : Type 0} → ℕ → Told A → List ℕ
signature_in refusal (given value) = no_signature
signature_in refusal (refused number values) = pick (eqb number refusal) values no_signature

-- an answer that has no signature to tell
abbrev pub parsed : {T E : Type 0} → Result T E → Parse T E
parsed answer = record { answer = answer; signature = no_signature }
