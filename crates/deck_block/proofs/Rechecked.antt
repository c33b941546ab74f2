-- A block with the check of a tag: its bytes before the check are as they were, and it is right at that tag; a block that was right before is read with
-- it as by its first check.
use Prim.Native.Nat.{ℕ, zero, suc, ◌+◌, ◌^◌, ◌≤◌, ◌<◌}
use mathlib.Core.Path.{◌≡◌, refl, ap, ap₂, sym, ◌∙◌}
use mathlib.Core.List.{List, ◌∷◌, ◌++◌}
use native.Mathlib.Omega.{arith}
use borrow.Author.Tests.{le-ltb, eq-eqb}
use lib.Dec.{lit<}
use lib.ListN.{length, take, get_or, length-append}
use lib.Seq.{length-take-le, take_at, drop_at, get_or-take}
use Rattle.promise.specs.Rules.{or_refuse}
use Rattle.promise.specs.Bytes.{field, low_first, high_first, from_high}
use Rattle.promise.proofs.Order.{length_high_first, from_high_first}
use Rattle.protocol_bytes.proofs.Short.{elements, field_elements}
use Rattle.crc.specs.Check.{check, start}
use Rattle.crc.proofs.Laws.{over_lt}
use Rattle.deck_block.specs.Block.{block_length, checked_length, fields_of, block_check, with_check, too_large}
use Rattle.deck_block.specs.Place.{RightAt, RightBefore}
use Rattle.deck_block.specs.Reading.{request_of, read_by, read_card, read_before}

module _ (tag : ℕ) (block : List ℕ) (long : checked_length ≤ length block) where
  first_long : length (take checked_length block) ≡ checked_length
  first_long = length-take-le checked_length block long

  pub as_it_was : take checked_length (with_check tag block) ≡ take checked_length block
  as_it_was = take_at (take checked_length block) (high_first 2 (block_check tag block)) checked_length first_long

  pub whole_block : length (with_check tag block) ≡ block_length
  whole_block =
      length-append (take checked_length block) (high_first 2 (block_check tag block))
      ∙ ap₂ (λ (a b : ℕ). a + b) first_long (length_high_first 2 (block_check tag block))

  check_lt : block_check tag block < 2 ^ 16
  unfolding block_check
  check_lt = over_lt start (high_first 4 tag ++ take checked_length block) (lit< tt)

  two_bytes : (v : ℕ) → take 2 (high_first 2 v) ≡ high_first 2 v
  unfolding high_first low_first
  two_bytes v = refl

  same_check : block_check tag (with_check tag block) ≡ block_check tag block
  unfolding block_check
  same_check = ap (λ (l : List ℕ). check (high_first 4 tag ++ l)) as_it_was

  pub right_there : RightAt tag (with_check tag block)
  unfolding fields_of
  right_there =
      let c = block_check tag block in
      let behind : field 510 2 (with_check tag block) ≡ high_first 2 c = ap (take 2) (drop_at (take checked_length block) (high_first 2 c) checked_length first_long) ∙ two_bytes c in
      let small = check_lt in
      ap from_high behind ∙ from_high_first 2 c (omega arith) ∙ sym same_check

-- blocks with the same bytes before the check
module _ (a b : List ℕ) (long-a : block_length ≤ length a) (long-b : block_length ≤ length b) (same : take checked_length a ≡ take checked_length b) where
  same_byte : (k : ℕ) → k < checked_length → get_or a k 0 ≡ get_or b k 0
  same_byte k h = sym (get_or-take checked_length a k 0 h) ∙ ap (λ (l : List ℕ). get_or l k 0) same ∙ get_or-take checked_length b k 0 h

  same_elements : (n at : ℕ) → at + n ≤ checked_length → elements n at a ≡ elements n at b
  same_elements zero at h = refl
  same_elements (suc n) at h = ap₂ (λ (x : ℕ) (l : List ℕ). x ∷ l) (same_byte at (omega arith)) (same_elements n (suc at) (omega arith))

  same_field : (n at : ℕ) → at + n ≤ checked_length → field at n a ≡ field at n b
  same_field n at h = field_elements n at a (omega arith) ∙ same_elements n at h ∙ sym (field_elements n at b (omega arith))

  same_kind : (fields_of a).kind ≡ (fields_of b).kind
  unfolding fields_of
  same_kind = same_byte 0 (omega arith)

  same_word : (fields_of a).word ≡ (fields_of b).word
  unfolding fields_of
  same_word = ap from_high (same_field 4 1 (omega arith))

  same_half : (fields_of a).half ≡ (fields_of b).half
  unfolding fields_of
  same_half = ap from_high (same_field 2 5 (omega arith))

  same_fill : (fields_of a).byte ≡ (fields_of b).byte
  unfolding fields_of
  same_fill = same_byte 7 (omega arith)

  same_size : too_large (fields_of a) ≡ too_large (fields_of b)
  unfolding too_large
  same_size = rw (same_kind, same_word, same_half) refl

  same_request : request_of (fields_of a) ≡ request_of (fields_of b)
  unfolding request_of
  same_request = rw (same_kind, same_word, same_half, same_fill) refl

  -- are read alike, each with the check that it must have
  pub read_as : (c d : ℕ) → (fields_of a).check ≡ c → (fields_of b).check ≡ d → read_by c a ≡ read_by d b
  unfolding read_by or_refuse
  read_as c d right-a right-b =
      rw (
        le-ltb (length a) block_length long-a,
        le-ltb (length b) block_length long-b,
        eq-eqb (fields_of a).check c right-a,
        eq-eqb (fields_of b).check d right-b,
        same_size,
        same_request,
        same_field 502 8 (omega arith),
        same_kind,
      )
      refl

-- a block that was right before is read as by its first check
pub reads_as_before : (tag : ℕ) (block : List ℕ) → block_length ≤ length block → RightBefore block → read_card tag (with_check tag block) ≡ read_before block
reads_as_before tag block long right =
    let enough : checked_length ≤ length block = omega arith in
    let whole : block_length ≤ length (with_check tag block) = let e = whole_block tag block enough in omega arith in
    read_as (with_check tag block) block whole long (as_it_was tag block enough) _ _ (right_there tag block enough) right
