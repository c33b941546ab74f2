-- A short list is its elements, one by one, and a field of a block is the bytes that stand there.
use Prim.Native.Nat.{ℕ, zero, suc, ◌+◌, ◌<◌, ◌≤◌}
use mathlib.Core.Path.{◌≡◌, refl, ap, sym, ◌∙◌}
use mathlib.Core.List.{List, [], ◌∷◌}
use native.Mathlib.Omega.{arith}
use lib.ListN.{length, get_or}
use lib.Seq.{take_all, drop-cons}
use Rattle.promise.specs.Bytes.{field}

-- the n elements from the one at `at` on
abbrev pub elements : ℕ → ℕ → List ℕ → List ℕ
elements zero at bytes = []
elements (suc n) at bytes = get_or bytes at 0 ∷ elements n (suc at) bytes

pub field_elements : (n at : ℕ) (bytes : List ℕ) → at + n ≤ length bytes → field at n bytes ≡ elements n at bytes
field_elements zero at bytes h = refl
field_elements (suc n) at bytes h =
    let here : at < length bytes = omega arith in
    let rest : suc at + n ≤ length bytes = omega arith in
    rw (drop-cons bytes at 0 here) (ap (λ (l : List ℕ). get_or bytes at 0 ∷ l) (field_elements n (suc at) bytes rest))

pub all_elements : (n : ℕ) (bytes : List ℕ) → length bytes ≡ n → bytes ≡ elements n 0 bytes
all_elements n bytes h =
    let long : length bytes ≤ n = omega arith in
    let whole : 0 + n ≤ length bytes = omega arith in
    sym (take_all n bytes long) ∙ field_elements n 0 bytes whole
