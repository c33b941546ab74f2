-- A header is in its first 45 bytes: what stands behind them changes nothing. The tag is the first four of 102. And what a copy of a slice's first
-- bytes leaves.
use Prim.Native.Nat.{ℕ, zero, suc, ◌+◌, ◌≤◌}
use mathlib.Core.Path.{◌≡◌, refl, ap, ap₂, sym, ◌∙◌}
use mathlib.Core.List.{List, [], ◌∷◌, ◌++◌, append-nil}
use native.Mathlib.Omega.{arith}
use lib.ListN.{length, take, drop, get_or, drop_of_length-le, length-take}
use Rattle.std.proofs.lemmas.List.{length-take-le}
use Rattle.protocol_bytes.proofs.Short.{field_elements}
use lib.Seq.{take-take, take-length, get_or-take}
use borrow.Author.Tests.{le-ltb}
use Rattle.promise.specs.Rules.{or_refuse}
use Rattle.promise.specs.Bytes.{field}
use Rattle.loader_records.specs.Records.{header_of, read_header}

pub first_field : (at k n : ℕ) (bytes : List ℕ) → at + k ≤ n → field at k (take n bytes) ≡ field at k bytes
first_field zero k n bytes h = take-take k n bytes (omega arith)
first_field (suc at) k zero bytes h = absurd (omega arith)
first_field (suc at) k (suc n) [] h = refl
first_field (suc at) k (suc n) (b ∷ bytes) h = first_field at k n bytes (omega arith)

module _ (bytes : List ℕ) where
  -- bytes 45 and behind are not looked at
  pub first_header : header_of (take 45 bytes) ≡ header_of bytes
  unfolding header_of
  first_header =
      rw (
        take-take 4 45 bytes (omega arith),
        first_field 4 2 45 bytes (omega arith),
        first_field 6 4 45 bytes (omega arith),
        first_field 10 4 45 bytes (omega arith),
        first_field 14 7 45 bytes (omega arith),
        first_field 21 4 45 bytes (omega arith),
        first_field 25 6 45 bytes (omega arith),
        first_field 31 6 45 bytes (omega arith),
        first_field 37 6 45 bytes (omega arith),
        get_or-take 45 bytes 43 0 (omega arith),
        get_or-take 45 bytes 44 0 (omega arith),
      )
      refl

pub header_first : (bytes : List ℕ) → header_of (take 45 bytes) ≡ header_of (take 102 bytes)
header_first bytes = sym (ap header_of (take-take 45 102 bytes (omega arith))) ∙ first_header (take 102 bytes)

-- "bytes 45 to 101 ignored": two slices that are long enough and begin with the same 45 bytes are read the same, refused ones too
pub same_header : (a b : List ℕ) → 102 ≤ length a → 102 ≤ length b → take 45 a ≡ take 45 b → read_header a ≡ read_header b
unfolding or_refuse
same_header a b long-a long-b e =
    let tags : take 4 a ≡ take 4 b = sym (take-take 4 45 a (omega arith)) ∙ ap (take 4) e ∙ take-take 4 45 b (omega arith) in
    let headers : header_of (take 102 a) ≡ header_of (take 102 b) = sym (header_first a) ∙ ap header_of e ∙ header_first b in
    rw (le-ltb (length a) 102 long-a, le-ltb (length b) 102 long-b, tags, headers) refl

-- the four bytes that are read off the first 102
pub first_four : (bytes first : List ℕ) → 102 ≤ length bytes → first ≡ take 102 bytes
    → get_or first 0 0 ∷ get_or first 1 0 ∷ get_or first 2 0 ∷ get_or first 3 0 ∷ [] ≡ take 4 bytes
first_four bytes first enough e =
    let long : length first ≡ 102 = ap length e ∙ length-take-le 102 bytes enough in
    let four : 0 + 4 ≤ length first = omega arith in
    sym (field_elements 4 0 first four) ∙ ap (take 4) e ∙ take-take 4 102 bytes (omega arith)

-- an array of n bytes after the first n of a slice were copied to it
pub copied_first : (n : ℕ) (bytes before last : List ℕ) → n ≤ length bytes → length before ≡ n
    → last ≡ take (length (take n bytes)) (take n bytes) ++ drop (length (take n bytes)) before → last ≡ take n bytes
copied_first n bytes before last enough long e =
    let whole : length before ≤ length (take n bytes) = simp length-take (omega arith) in
    e ∙ ap₂ (λ (a b : List ℕ). a ++ b) (take-length (take n bytes)) (drop_of_length-le before whole) ∙ append-nil (take n bytes)
