-- An entry's name is read unit by unit.
use Prim.Native.Nat.{ℕ, zero, suc, ◌+◌, ◌*◌, ◌<◌}
use mathlib.Core.Path.{◌≡◌, ap, ap₂, sym, ◌∙◌}
use mathlib.Core.List.{List, [], ◌∷◌, ◌++◌}
use native.Mathlib.Omega.{arith}
use lib.ListN.{length, take, set}
use lib.Seq.{take-suc-set}
use Rattle.promise.specs.Bytes.{field, from_low}
use Rattle.loader_records.specs.Records.{units_from}

-- one unit more at the end
units_more : (n at : ℕ) (bytes : List ℕ) → units_from (suc n) at bytes ≡ units_from n at bytes ++ (from_low (field (at + 2 * n) 2 bytes) ∷ [])
unfolding units_from
units_more zero at bytes = let here : at ≡ at + 2 * 0 = omega arith in ap (λ (k : ℕ). from_low (field k 2 bytes) ∷ []) here
units_more (suc n) at bytes =
    let there : suc (suc at) + 2 * n ≡ at + 2 * suc n = omega arith in
    ap (λ (l : List ℕ). from_low (field at 2 bytes) ∷ l)
    (units_more n (suc (suc at)) bytes ∙ ap (λ (k : ℕ). units_from n (suc (suc at)) bytes ++ (from_low (field k 2 bytes) ∷ [])) there)

-- the first i units stand, and then one more
pub units_next : (i at v : ℕ) (bytes name : List ℕ) → i < length name → take i name ≡ units_from i at bytes → v ≡ from_low (field (at + 2 * i) 2 bytes)
    → take (suc i) (set name i v) ≡ units_from (suc i) at bytes
units_next i at v bytes name inside done e =
    take-suc-set name i v inside ∙ ap₂ (λ (l : List ℕ) (k : ℕ). l ++ (k ∷ [])) done e ∙ sym (units_more i at bytes)
