-- Examples P3 to P8 of the rules: P4 to P8 of the definition that old wire records are read by, P5 to P8 of kind 12 as well; and the two longest images.
use Prim.Native.Nat.{ℕ, ◌+◌, ◌/◌, ◌%◌, ◌≤◌}
use mathlib.Core.Path.{◌≡◌, refl, ap, ap₂, ◌∙◌}
use mathlib.Core.List.{List, [], ◌∷◌, ◌++◌}
use native.Mathlib.Omega.{arith}
use lib.ListN.{length, replicate, length-replicate}
use Rattle.promise.specs.Bytes.{low_first, high_first}
use Rattle.crc.specs.Check.{crc_over}
use Rattle.maskrom_transfer.specs.Moves.{block_size}
use Rattle.maskrom.specs.Answers.{longest}
use Rattle.maskrom.specs.Made.{pad, padded}
use Rattle.theorems.specs.UploadBytes.{last_zero, framed, upload_bytes, pieces, cut, total}
use Rattle.theorems.specs.OldRecords.{unchecked_bytes, unchecked_transfers, unchecked_sizes}
use Rattle.theorems.specs.PartDriver.{transfer, transfers_of, sizes_of, Uploads}
use Rattle.theorems.proofs.AnyCut.{any_cut, how_many_lem, sizes}
use Rattle.theorems.proofs.OldRecords.{same_sizes}
use Rattle.promise.specs.Told.{Told}
use Rattle.deck_block.specs.declared.Request.{Request}
use Rattle.deck.specs.Dealing.{carry_out, deal_asked, deal_block}
use Rattle.theorems.specs.Kind12.{Kind12}

-- P3, P4: the empty image, and as old wire records have it
pub p3 : (area : ℕ) → transfers_of area [] ≡ transfer area (0xFF ∷ 0xFF ∷ []) ∷ []
unfolding transfers_of upload_bytes framed padded pad last_zero pieces cut crc_over low_first high_first
p3 area = refl

pub p4 : (area : ℕ) → unchecked_transfers area [] ≡ transfer area (0x00 ∷ 0x00 ∷ []) ∷ []
unfolding unchecked_transfers unchecked_bytes framed padded pad last_zero pieces cut
p4 area = refl

-- the sizes of an image of n bytes, without a check and with it
abbrev sizes_for : ℕ → List ℕ
sizes_for n = replicate (total n / block_size) block_size ++ (total n % block_size ∷ [])

module _ (image : List ℕ) (n : ℕ) (e : length image ≡ n) where
  unchecked_at : unchecked_sizes image ≡ sizes_for n
  unchecked_at = same_sizes image ∙ ap sizes_for e

  sizes_at : sizes_of image ≡ sizes_for n
  sizes_at = sizes image ∙ ap sizes_for e

-- P5 to P8, of the definition that old wire records are read by
module _ (image : List ℕ) where
  pub p5 : length image ≡ 4093 → unchecked_sizes image ≡ 4095 ∷ []
  unfolding total pad last_zero
  p5 e = unchecked_at image 4093 e

  pub p6 : length image ≡ 4094 → unchecked_sizes image ≡ 4096 ∷ 1 ∷ []
  unfolding total pad last_zero
  p6 e = unchecked_at image 4094 e

  pub p7 : length image ≡ 4095 → unchecked_sizes image ≡ 4096 ∷ 2 ∷ []
  unfolding total pad last_zero
  p7 e = unchecked_at image 4095 e

  pub p8 : length image ≡ 4096 → unchecked_sizes image ≡ 4096 ∷ 2 ∷ []
  unfolding total pad last_zero
  p8 e = unchecked_at image 4096 e

-- P5 to P8 of kind 12
kind_12 : (n : ℕ) → Kind12 n (sizes_for n)
unfolding deal_block deal_asked carry_out
kind_12 n tag area fill block h e = (ap (λ (t : Told Request). deal_asked tag t h) e, sizes_at (replicate n fill) n (length-replicate n fill))

pub p5_kind_12 : Kind12 4093 (4095 ∷ [])
unfolding total pad last_zero
p5_kind_12 = kind_12 4093

pub p6_kind_12 : Kind12 4094 (4096 ∷ 1 ∷ [])
unfolding total pad last_zero
p6_kind_12 = kind_12 4094

pub p7_kind_12 : Kind12 4095 (4096 ∷ 2 ∷ [])
unfolding total pad last_zero
p7_kind_12 = kind_12 4095

pub p8_kind_12 : Kind12 4096 (4096 ∷ 2 ∷ [])
unfolding total pad last_zero
p8_kind_12 = kind_12 4096

uploads : (n many last : ℕ) → n ≤ longest → total n / block_size ≡ many → total n % block_size ≡ last → Uploads n many last
uploads n many last l q r = record {
  ends = λ area image parts out e p h. any_cut area image parts out p (omega arith) h;
  number = λ area image e. how_many_lem area image ∙ ap (λ (k : ℕ). total k / block_size + 1) e ∙ ap (λ (k : ℕ). k + 1) q;
  lengths = λ image e. sizes_at image n e ∙ ap₂ (λ (k j : ℕ). replicate k block_size ++ (j ∷ [])) q r;
}

pub longest_but_one : Uploads 4294967294 1048576 1
unfolding total pad last_zero
longest_but_one = uploads 4294967294 1048576 1 (omega arith) refl refl

pub longest_of_all : Uploads 4294967295 1048576 2
unfolding total pad last_zero
longest_of_all = uploads 4294967295 1048576 2 (omega arith) refl refl
