-- How an old wire record is read, and how it stands to an upload of today.
use Prim.Native.Nat.{ℕ, ◌+◌, ◌-◌, ◌/◌, ◌%◌}
use mathlib.Core.Path.{◌≡◌, refl, ap, ap₂, sym, ◌∙◌}
use mathlib.Core.List.{List, [], ◌∷◌, ◌++◌, append_assoc, flatten, map}
use mathlib.Core.Logic.{◌⊎◌, inl, inr}
use native.Mathlib.Omega.{arith}
use native.Mathlib.Decide.{ℕ_discrete}
use lib.ListN.{length, take, drop, replicate, length-append}
use lib.Seq.{take_at, drop_at}
use lib.Dec.{lit<}
use borrow.Author.Tests.{eq-eqb, ne_eqb}
use Rattle.promise.specs.Over.{over}
use Rattle.promise.specs.Bytes.{low_first, high_first, from_low, from_high}
use Rattle.promise.proofs.Order.{length_high_first, from_high_first}
use Rattle.crc.specs.Check.{start, check}
use Rattle.crc.proofs.Laws.{over_lt}
use Rattle.maskrom_transfer.specs.Moves.{block_size, check_bytes}
use Rattle.maskrom.specs.Made.{pad, padded}
use Rattle.maskrom.proofs.PartMade.{padded_pad, padded_not}
use Rattle.theorems.specs.UploadBytes.{last_zero, framed, upload_bytes, cut, total}
use Rattle.theorems.specs.PartDriver.{Transfer, transfer}
use Rattle.theorems.specs.OldRecords.{unchecked_bytes, unchecked_transfers, unchecked_sizes, record_bytes, behind_image, image_read}
use Rattle.theorems.proofs.CutIntoTransfers.{cut_sizes, cut_joins}
use Rattle.theorems.proofs.AnyCut.{framed_length, bytes_of}

-- how long the image and its pad are, of an upload of so many bytes
before_zeros : (image : List ℕ) → Dec (length image % 4096 ≡ 4095) → Dec (length image % 4096 ≡ 4094)
    → length (padded image) ≡ total (length image) - behind_image (total (length image))
unfolding padded pad last_zero total behind_image
before_zeros image (yes e) d =
    let n = length image in
    let l = length-append image (0 ∷ []) in
    rw (eq-eqb (n % 4096) 4095 e, ne_eqb (n % 4096) 4094 (omega arith), ne_eqb ((n + 3) % 4096) 1 (omega arith)) (omega arith)
before_zeros image (no e) (yes d) =
    let n = length image in
    let l = length-append {A = ℕ} image [] in
    rw (ne_eqb (n % 4096) 4095 e, eq-eqb (n % 4096) 4094 d, eq-eqb ((n + 3) % 4096) 1 (omega arith)) (omega arith)
before_zeros image (no e) (no d) =
    let n = length image in
    let l = length-append {A = ℕ} image [] in
    rw (ne_eqb (n % 4096) 4095 e, ne_eqb (n % 4096) 4094 d, ne_eqb ((n + 2) % 4096) 1 (omega arith)) (omega arith)

-- whichever two bytes stand behind the image and its pad
framed_read : (two image : List ℕ) → length two ≡ 2 → image_read (framed two image) ≡ padded image
unfolding image_read framed
framed_read two image e =
    let n = length image in
    let all = framed two image in
    let same : length (padded image) ≡ length all - behind_image (length all) =
    before_zeros image (ℕ_discrete (n % 4096) 4095) (ℕ_discrete (n % 4096) 4094) ∙ ap (λ (t : ℕ). t - behind_image t) (sym (framed_length two image e)) in
    take_at (padded image) (two ++ last_zero n) (length all - behind_image (length all)) same

-- READ BACK: what is read of an upload without a check is its image, with the pad where it has one
pub read_back : (image : List ℕ) → image_read (unchecked_bytes image) ≡ padded image
unfolding unchecked_bytes
read_back image = framed_read (0 ∷ 0 ∷ []) image refl

-- an image that ends with its pad is sent as the one without
of_padded : (image : List ℕ) → Dec (length image % 4096 ≡ 4095) → unchecked_bytes (padded image) ≡ unchecked_bytes image
unfolding unchecked_bytes framed last_zero
of_padded image (yes e) =
    let n = length image in
    let long : length (padded image) ≡ n + 1 = ap length (padded_pad image e) ∙ length-append image (0 ∷ []) in
    let even : length (padded image) % 4096 ≡ 0 = ap (λ (k : ℕ). k % 4096) long ∙ omega arith in
    rw (padded_not (padded image) (λ z. omega (arith, even, z)), even, e) refl
of_padded image (no e) = ap unchecked_bytes (padded_not image e)

-- WHICH IMAGE a record is of: two images have the same bytes exactly if they are the same with their pads
pub same_image : (a b : List ℕ) → unchecked_bytes a ≡ unchecked_bytes b → padded a ≡ padded b
same_image a b e = sym (read_back a) ∙ ap image_read e ∙ read_back b

pub same_bytes : (a b : List ℕ) → padded a ≡ padded b → unchecked_bytes a ≡ unchecked_bytes b
same_bytes a b e =
    sym (of_padded a (ℕ_discrete (length a % 4096) 4095)) ∙ ap unchecked_bytes e ∙ of_padded b (ℕ_discrete (length b % 4096) 4095)

-- so they are the same, or one has a pad and is with it the other
apart_by_pad : (a b : List ℕ) → padded a ≡ padded b → Dec (length a % 4096 ≡ 4095) → Dec (length b % 4096 ≡ 4095)
    → (a ≡ b) ⊎ (((length a % 4096 ≡ 4095) × (a ++ (0 ∷ []) ≡ b)) ⊎ ((length b % 4096 ≡ 4095) × (b ++ (0 ∷ []) ≡ a)))
apart_by_pad a b e (yes p) (yes q) =
    let both : a ++ (0 ∷ []) ≡ b ++ (0 ∷ []) = sym (padded_pad a p) ∙ e ∙ padded_pad b q in
    let long : length a ≡ length b = omega (arith, ap length both, length-append a (0 ∷ []), length-append b (0 ∷ [])) in
    inl (sym (take_at a (0 ∷ []) (length b) long) ∙ ap (take (length b)) both ∙ take_at b (0 ∷ []) (length b) refl)
apart_by_pad a b e (yes p) (no q) = inr (inl (p, sym (padded_pad a p) ∙ e ∙ padded_not b q))
apart_by_pad a b e (no p) (yes q) = inr (inr (q, sym (padded_pad b q) ∙ sym e ∙ padded_not a p))
apart_by_pad a b e (no p) (no q) = inl (sym (padded_not a p) ∙ e ∙ padded_not b q)

pub no_others_alike : (a b : List ℕ) → unchecked_bytes a ≡ unchecked_bytes b
    → (a ≡ b) ⊎ (((length a % 4096 ≡ 4095) × (a ++ (0 ∷ []) ≡ b)) ⊎ ((length b % 4096 ≡ 4095) × (b ++ (0 ∷ []) ≡ a)))
no_others_alike a b e = apart_by_pad a b (same_image a b e) (ℕ_discrete (length a % 4096) 4095) (ℕ_discrete (length b % 4096) 4095)

-- a record by its transfers: its area stands in each of them
all_to : (area : ℕ) (pieces : List (List ℕ)) → map (λ (t : Transfer). t.setup.index) (map (transfer area) pieces) ≡ map (λ (piece : List ℕ). area) pieces
all_to area [] = refl
all_to area (piece ∷ pieces) = ap (λ (l : List ℕ). area ∷ l) (all_to area pieces)

pub record_area : (area : ℕ) (image : List ℕ)
    → map (λ (t : Transfer). t.setup.index) (unchecked_transfers area image) ≡ map (λ (piece : List ℕ). area) (cut (unchecked_bytes image))
unfolding unchecked_transfers
record_area area image = all_to area (cut (unchecked_bytes image))

pub record_bytes_lem : (area : ℕ) (image : List ℕ) → record_bytes (unchecked_transfers area image) ≡ unchecked_bytes image
unfolding unchecked_transfers
record_bytes_lem area image = ap flatten (bytes_of area (cut (unchecked_bytes image))) ∙ cut_joins (unchecked_bytes image)

-- WHICH TRANSFERS are an upload without a check to an area: those that are the upload of what is read of them, for if they are of any image, they are of that
pub is_record : (area : ℕ) (image : List ℕ) (ts : List Transfer) → ts ≡ unchecked_transfers area image
    → ts ≡ unchecked_transfers area (image_read (record_bytes ts))
unfolding unchecked_transfers
is_record area image ts e =
    let read : image_read (record_bytes ts) ≡ padded image = ap image_read (ap record_bytes e ∙ record_bytes_lem area image) ∙ read_back image in
    e ∙ ap (λ (l : List ℕ). map (transfer area) (cut l)) (sym (of_padded image (ℕ_discrete (length image % 4096) 4095)) ∙ ap unchecked_bytes (sym read))

-- BESIDE AN UPLOAD OF TODAY: the same bytes, but 00 00 in the place of the check
pub today_with_zeros : (image : List ℕ) → unchecked_bytes image ≡ over (length (padded image)) (0 ∷ 0 ∷ []) (upload_bytes image)
unfolding unchecked_bytes upload_bytes framed over
today_with_zeros image =
    let body = padded image in
    let two = check_bytes (check body) in
    let last = last_zero (length image) in
    let long : length (body ++ two) ≡ length body + 2 = length-append body two ∙ ap (λ (k : ℕ). length body + k) (length_high_first 2 (check body)) in
    let before : take (length body) (body ++ (two ++ last)) ≡ body = take_at body (two ++ last) (length body) refl in
    let behind : drop (length body + 2) (body ++ (two ++ last)) ≡ last =
    ap (drop (length body + 2)) (sym (append_assoc body two last)) ∙ drop_at (body ++ two) last (length body + 2) long in
    rw (before, behind) refl

pub same_sizes : (image : List ℕ)
    → unchecked_sizes image ≡ replicate (total (length image) / block_size) block_size ++ (total (length image) % block_size ∷ [])
unfolding unchecked_bytes
same_sizes image =
    cut_sizes (unchecked_bytes image)
    ∙ ap (λ (k : ℕ). replicate (k / 4096) 4096 ++ (k % 4096 ∷ [])) (framed_length (0 ∷ 0 ∷ []) image refl)

-- NO UPLOAD OF TODAY IS ONE, but where its check is 0: then the two are the same bytes
two_there : (two image : List ℕ) → length two ≡ 2 → take 2 (drop (length (padded image)) (framed two image)) ≡ two
unfolding framed
two_there two image e =
    ap (take 2) (drop_at (padded image) (two ++ last_zero (length image)) (length (padded image)) refl) ∙ take_at two (last_zero (length image)) 2 e

pub alike_only_at_0 : (a b : List ℕ) → upload_bytes a ≡ unchecked_bytes b → check (padded a) ≡ 0
unfolding upload_bytes unchecked_bytes from_high from_low
alike_only_at_0 a b e =
    let c = check (padded a) in
    let two = length_high_first 2 c in
    let same : padded a ≡ padded b = sym (framed_read (check_bytes c) a two) ∙ ap image_read e ∙ read_back b in
    let zeros : check_bytes c ≡ 0 ∷ 0 ∷ [] =
    sym (two_there (check_bytes c) a two) ∙ ap₂ (λ (k : ℕ) (l : List ℕ). take 2 (drop k l)) (ap length same) e ∙ two_there (0 ∷ 0 ∷ []) b refl in
    sym (from_high_first 2 c (let small = over_lt start (padded a) (lit< tt) in omega arith)) ∙ ap from_high zeros

pub alike_at_0 : (image : List ℕ) → check (padded image) ≡ 0 → upload_bytes image ≡ unchecked_bytes image
unfolding upload_bytes unchecked_bytes high_first low_first
alike_at_0 image e = ap (λ (c : ℕ). framed (check_bytes c) image) e
