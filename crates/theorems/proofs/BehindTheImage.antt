-- What follows the image: pad, check and last zero, as a function of the register over the image and of its length.
use Prim.Native.Nat.{ℕ, ◌+◌, ◌%◌, ◌<◌, ◌≤◌}
use mathlib.Core.Path.{◌≡◌, ap, ◌∙◌}
use mathlib.Core.Bool.{Bool, true, false}
use mathlib.Core.List.{List, [], ◌∷◌, ◌++◌, append_assoc, append-nil}
use native.Mathlib.Omega.{arith}
use lib.ListN.{length, length-append}
use lib.Dec.{eqb}
use borrow.Author.Tests.{ne_eqb}
use Rattle.promise.specs.Rules.{pick}
use Rattle.promise.proofs.Order.{length_high_first}
use Rattle.crc.specs.Check.{start, check, crc_over}
use Rattle.crc.proofs.Laws.{over_append, over_empty}
use Rattle.maskrom_transfer.specs.Moves.{check_bytes}
use Rattle.maskrom.specs.Made.{pad, padded}
use Rattle.theorems.specs.UploadBytes.{last_zero, framed, upload_bytes}

unfoldable pub ending : ℕ → ℕ → List ℕ
ending crc n = pad n ++ (check_bytes (crc_over crc (pad n)) ++ last_zero n)

-- what is left of the image may be sent in two
pub regroup : (crc n : ℕ) (xs ys : List ℕ)
    → (xs ++ ys) ++ ending (crc_over crc (xs ++ ys)) n ≡ xs ++ (ys ++ ending (crc_over (crc_over crc xs) ys) n)
regroup crc n xs ys =
    rw (over_append crc xs ys) (append_assoc xs ys (ending (crc_over (crc_over crc xs) ys) n))

-- the upload is the image and what follows it
pub upload_ending : (image : List ℕ)
    → upload_bytes image ≡ image ++ ending (crc_over start image) (length image)
unfolding upload_bytes framed padded ending
upload_ending image =
    let p = pad (length image) in
    append_assoc image p (check_bytes (check (image ++ p)) ++ last_zero (length image))
    ∙ ap (λ (l : List ℕ). image ++ (p ++ (l ++ last_zero (length image)))) (ap check_bytes (over_append start image p))

-- only the length mod 4,096 counts
pub ending_same : (crc n k : ℕ) → n % 4096 ≡ k % 4096 → ending crc n ≡ ending crc k
unfolding ending pad last_zero
ending_same crc n k e = rw e

module _ (crc n : ℕ) where
  pub ending_pad : n % 4096 ≡ 4095 → ending crc n ≡ (0 ∷ []) ++ check_bytes (crc_over crc (0 ∷ []))
  unfolding ending pad last_zero
  ending_pad e =
      rw (e) (ap (λ (l : List ℕ). 0 ∷ l) (append-nil (check_bytes (crc_over crc (0 ∷ [])))))

  pub ending_dummy : n % 4096 ≡ 4094 → ending crc n ≡ check_bytes crc ++ (0 ∷ [])
  unfolding ending pad last_zero
  ending_dummy e = rw (e, over_empty crc)

  pub ending_last : n % 4096 < 4094 → ending crc n ≡ check_bytes crc
  unfolding ending pad last_zero
  ending_last h =
      rw (ne_eqb (n % 4096) 4095 (omega arith), ne_eqb (n % 4096) 4094 (omega arith), over_empty crc) (append-nil (check_bytes crc))

-- how long it is
pub length_ending : (crc n : ℕ) → length (ending crc n) ≡ length (pad n) + (2 + length (last_zero n))
unfolding ending
length_ending crc n =
    let c = check_bytes (crc_over crc (pad n)) in
    length-append (pad n) (c ++ last_zero n)
    ∙ ap (λ (k : ℕ). length (pad n) + k) (length-append c (last_zero n) ∙ ap (λ (k : ℕ). k + length (last_zero n)) (length_high_first 2 (crc_over crc (pad n))))

pick_few : (b : Bool) → length {A = ℕ} (pick b (0 ∷ []) []) ≤ 1
pick_few true = omega arith
pick_few false = omega arith

pub ending_few : (crc n : ℕ) → length (ending crc n) ≤ 4
unfolding pad last_zero
ending_few crc n = omega (arith, length_ending crc n, pick_few (eqb (n % 4096) 4095), pick_few (eqb (n % 4096) 4094))
