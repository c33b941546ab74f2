-- What clearing bits makes of bytes, and how the two loops come to it.
use Prim.Native.Nat.{ℕ, zero, suc, ◌+◌, ◌-◌, ◌%◌, ◌^◌, ◌≤◌, ◌<◌}
use mathlib.Core.Path.{◌≡◌, refl, ap, ap₂, sym, ◌∙◌}
use mathlib.Core.Bool.{Bool, true, false}
use mathlib.Core.List.{List, [], ◌∷◌, ◌++◌}
use native.Mathlib.Numerals.{add-one}
use native.Mathlib.Omega.{arith}
use lib.Bits.{bit_and, and_comm, and_mask}
use lib.ListN.{length, take, drop, set, get_or, replicate, length-take, length-drop}
use lib.Seq.{drop-cons, set_at, get_or_at, take_all, take-length, ext_get_or}
use borrow.Rule.Slice.PartMut.{put_mid}
use borrow.Author.Tests.{eq-eqb, ne_eqb}
use Rattle.promise.specs.Rules.{pick}
use Rattle.promise.specs.Bytes.{front, AreBytes}
use Rattle.promise.specs.Over.{over}
use Rattle.promise.proofs.Copied.{copied}
use Rattle.protocol_bytes.specs.Signature.{same}
use Rattle.protocol_bytes.proofs.Same.{same_equal, same_itself, same_differs}
use Rattle.protocol_codes.specs.declared.Status.TheVariants.{SUCCESS, FAILED}
use Rattle.promise.proofs.Outcome.{on_test}
use Rattle.std.specs.List.{list_all, zip}
use lib.Dec.{eqb}
use Rattle.mock_effects.specs.Effects.{erased, programmed, cells_told}

pub length_programmed : (bytes old : List ℕ) → length (programmed bytes old) ≡ length bytes
unfolding programmed
length_programmed [] old = refl
length_programmed (b ∷ bytes) [] = ap suc (length_programmed bytes [])
length_programmed (b ∷ bytes) (o ∷ old) = ap suc (length_programmed bytes old)

-- whether the cells took all that was asked
abbrev pub took : List ℕ → List ℕ → Bool
took bytes old = same (programmed bytes old) bytes

-- whether they did, place by place
module _ (i : ℕ) (asked old : List ℕ) (here : i < length asked) (fits : length asked ≤ length old) where
  abbrev cell : ℕ
  cell = bit_and (get_or old i 0) (get_or asked i 0)

  -- a byte that is the one asked leaves it to the rest, and any other decides
  pub took_next : cell ≡ get_or asked i 0 → took (drop i asked) (drop i old) ≡ took (drop (i + 1) asked) (drop (i + 1) old)
  unfolding programmed same
  took_next e =
      let there : i < length old = omega arith in
      rw (add-one, drop-cons asked i 0 here, drop-cons old i 0 there, eq-eqb cell (get_or asked i 0) e) refl

  pub took_not : (cell ≡ get_or asked i 0 → ⊥) → took (drop i asked) (drop i old) ≡ false
  unfolding programmed same
  took_not e =
      let there : i < length old = omega arith in
      rw (drop-cons asked i 0 here, drop-cons old i 0 there, ne_eqb cell (get_or asked i 0) e) refl

-- each cell beside the byte that is asked of it keeps exactly that byte
abbrev pub keeps_byte : ℕ × ℕ → Bool
keeps_byte p = eqb (bit_and p.0 p.1) p.1

pub all_took : (old asked : List ℕ) → length asked ≤ length old → list_all keeps_byte (zip old asked) ≡ took asked old
unfolding programmed same
all_took [] [] h = refl
all_took (o ∷ old) [] h = refl
all_took [] (b ∷ asked) h = absurd (omega arith)
all_took (o ∷ old) (b ∷ asked) h =
    on_test (eqb (bit_and o b) b) (λ t. rw t (all_took old asked (omega arith))) (λ t. rw t refl)

-- a part of which the first i bytes are programmed
abbrev pub so_far : ℕ → List ℕ → List ℕ → List ℕ
so_far i asked part = programmed (take i asked) part ++ drop i part

pub none_so_far : (asked part : List ℕ) → part ≡ so_far 0 asked part
unfolding programmed
none_so_far asked part = refl

-- one byte more
more : (i : ℕ) (asked part rest : List ℕ) → i < length asked → i < length part
    → programmed (take i asked) part ++ (bit_and (get_or part i 0) (get_or asked i 0) ∷ rest) ≡ programmed (take (suc i) asked) part ++ rest
unfolding programmed
more i [] part rest h k = absurd (omega arith)
more i (b ∷ asked) [] rest h k = absurd (omega arith)
more zero (b ∷ asked) (o ∷ part) rest h k = refl
more (suc i) (b ∷ asked) (o ∷ part) rest h k = ap (λ (l : List ℕ). bit_and o b ∷ l) (more i asked part rest (omega arith) (omega arith))

module _ (i : ℕ) (asked part : List ℕ) (fits : length asked ≤ length part) where
  taken_long : i ≤ length asked → length (programmed (take i asked) part) ≡ i
  taken_long h = length_programmed (take i asked) part ∙ simp length-take (omega arith)

  pub next_so_far : i < length asked → set (so_far i asked part) i (bit_and (get_or part i 0) (get_or asked i 0)) ≡ so_far (i + 1) asked part
  next_so_far h =
      let there : i < length part = omega arith in
      let k = taken_long (omega arith) in
      rw (add-one, drop-cons part i 0 there)
      (set_at (programmed (take i asked) part) (get_or part i 0) (drop (suc i) part) (bit_and (get_or part i 0) (get_or asked i 0)) i k
      ∙ more i asked part (drop (suc i) part) h there)

  -- the byte that comes next is as it was
  pub kept_so_far : i < length asked → get_or (so_far i asked part) i 0 ≡ get_or part i 0
  kept_so_far h =
      let there : i < length part = omega arith in
      rw (drop-cons part i 0 there) (get_or_at (programmed (take i asked) part) (get_or part i 0) (drop (suc i) part) 0 i (taken_long (omega arith)))

  pub whole_so_far : i ≡ length asked → so_far i asked part ≡ front (programmed asked part) part
  whole_so_far e =
      let le : length asked ≤ i = omega arith in
      rw (take_all i asked le, length_programmed asked part, e) refl

-- the rest of a flash was lent, from place `at` on: what is left of it stands where it stood
module _ (at : ℕ) (asked flash : List ℕ) (inside : at + length asked ≤ length flash) where
  pub all_the_rest : take (length flash - at) (drop at flash) ≡ drop at flash
  all_the_rest = let le : length (drop at flash) ≤ length flash - at = simp length-drop (omega arith) in take_all (length flash - at) (drop at flash) le

  pub put_programmed : (last : List ℕ)
      → last ≡ front (programmed asked (take (length flash - at) (drop at flash))) (take (length flash - at) (drop at flash))
      → put_mid at (length flash - at) flash last ≡ over at (programmed asked (drop at flash)) flash
  put_programmed last e =
      let now = programmed asked (drop at flash) in
      let long = length_programmed asked (drop at flash) in
      copied at (length flash - at) now flash last (omega (arith, long)) (omega (arith, long))
      (e ∙ ap (λ (l : List ℕ). front (programmed asked l) (take (length flash - at) (drop at flash))) all_the_rest
      ∙ ap (λ (l : List ℕ). l ++ drop (length now) (take (length flash - at) (drop at flash))) (sym (take-length now)))

by_status_lem : (all : Bool) → pick all SUCCESS FAILED ≡ SUCCESS → all ≡ true
by_status_lem true e = refl
by_status_lem false e = let z : ◌≡◌ {A = ℕ} 0 1 = cc in absurd (omega arith)

-- what the cells tell is what stands there: success where each byte is the one asked, FAILED where some byte is another
module _ (bytes old : List ℕ) where
  pub told_success : cells_told bytes old ≡ SUCCESS → programmed bytes old ≡ bytes
  unfolding cells_told
  told_success e = same_equal (programmed bytes old) bytes (by_status_lem (took bytes old) e)

  pub tells_success : programmed bytes old ≡ bytes → cells_told bytes old ≡ SUCCESS
  unfolding cells_told
  tells_success e = let t : took bytes old ≡ true = ap (λ (l : List ℕ). same l bytes) e ∙ same_itself bytes in ap (λ (b : Bool). pick b SUCCESS FAILED) t

  pub told_failed : cells_told bytes old ≡ FAILED → programmed bytes old ≡ bytes → ⊥
  told_failed e same = let f : SUCCESS ≡ FAILED = sym (tells_success same) ∙ e in let z : ◌≡◌ {A = ℕ} 0 1 = cc in omega arith

  pub tells_failed : (programmed bytes old ≡ bytes → ⊥) → cells_told bytes old ≡ FAILED
  unfolding cells_told
  tells_failed h = ap (λ (b : Bool). pick b SUCCESS FAILED) (same_differs (programmed bytes old) bytes h)

-- an erased cell takes every byte
pub erased_takes : (byte : ℕ) → byte < 256 → bit_and erased byte ≡ byte
erased_takes byte small = let low : byte % 2 ^ 8 ≡ byte = omega arith in and_comm erased byte ∙ and_mask byte 8 ∙ low

pub erased_take : (n : ℕ) (bytes rest : List ℕ) → length bytes ≤ n → AreBytes bytes → programmed bytes (replicate n erased ++ rest) ≡ bytes
unfolding programmed
erased_take n [] rest fits are = refl
erased_take zero (b ∷ bytes) rest fits are = absurd (omega arith)
erased_take (suc n) (b ∷ bytes) rest fits are =
    ap₂ (λ (x : ℕ) (l : List ℕ). x ∷ l) (erased_takes b (are 0)) (erased_take n bytes rest (omega arith) (λ i. are (suc i)))

-- and a cell gains no bit by a write
pub bits_kept : (bytes old : List ℕ) (i : ℕ) → i < length bytes → i < length old → get_or (programmed bytes old) i 0 ≡ bit_and (get_or old i 0) (get_or bytes i 0)
unfolding programmed
bits_kept [] old i h k = absurd (omega arith)
bits_kept (b ∷ bytes) [] i h k = absurd (omega arith)
bits_kept (b ∷ bytes) (o ∷ old) zero h k = refl
bits_kept (b ∷ bytes) (o ∷ old) (suc i) h k = bits_kept bytes old i (omega arith) (omega arith)

-- TAKEN. The cells take all that is asked exactly if no byte asked has a bit that its cell has not
pub takes_bits : (bytes old : List ℕ) → length bytes ≤ length old → ((i : ℕ) → i < length bytes → bit_and (get_or old i 0) (get_or bytes i 0) ≡ get_or bytes i 0)
    → programmed bytes old ≡ bytes
takes_bits bytes old fits all =
    let long = length_programmed bytes old in
    ext_get_or 0 (programmed bytes old) bytes long
    (λ i h. let here : i < length bytes = omega (arith, long) in bits_kept bytes old i here (omega arith) ∙ all i here)

pub bits_taken : (bytes old : List ℕ) → length bytes ≤ length old → programmed bytes old ≡ bytes → (i : ℕ) → i < length bytes
    → bit_and (get_or old i 0) (get_or bytes i 0) ≡ get_or bytes i 0
bits_taken bytes old fits e i h = sym (bits_kept bytes old i h (omega arith)) ∙ ap (λ (l : List ℕ). get_or l i 0) e
