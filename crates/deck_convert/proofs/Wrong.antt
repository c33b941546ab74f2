-- Programs that the contracts rule out, whatever their proofs: each answer is refuted at a named chunk.
use Rattle.std.proofs.Common.{◌≡◌, ℕ, ◌+◌, ◌*◌, ◌/◌, ◌%◌, Bool, true, false, eqb, List, [], ◌∷◌, ◌++◌, length, get_or, drop, replicate, sym, refl, ap, ◌∙◌, ap₂, append-nil, arith, lit<, lit≤, eq-eqb}
use Rattle.promise.specs.Bytes.{low_first, high_first, from_low, from_high}
use Rattle.crc.specs.Check.{bit_step, bits_step, byte_step, crc_over}
use Rattle.deck_block.specs.Block.{block_length, fields_of, block_check, first_check, with_check}
use Rattle.deck_block.specs.Place.{tag_after}
use Rattle.deck_block.specs.Blocks.{cut, joined}
use Rattle.deck_block.proofs.Blocks.{one_block}
use Rattle.deck_block.proofs.Rechecked.{right_there}
use Rattle.deck_convert.specs.declared.Convert.{Convert}
use Rattle.deck_convert.specs.Convert.{is_right, is_converted, is_left, counted, as_upload, convert_block, convert_blocks, convert_all, new_convert, behind, behind_blocks, behind_all, ConvertMeets}
use Rattle.deck_convert.proofs.OneBlock.{short_neither, other_neither, by_check}
use Rattle.deck_convert.proofs.Converted.{stays, turns}
use Rattle.deck_convert.proofs.AnyCaller.{whole_then}

-- a kind and zeros, with the check of this tag behind them
abbrev body : ℕ → List ℕ
body kind = kind ∷ replicate 509 0

abbrev sealed : ℕ → ℕ → List ℕ
sealed tag kind = with_check tag (body kind)

-- kind 13, right at block 1; with zeros for a check; with its first check; and the same as an upload, right at block 1
abbrev right : List ℕ
right = sealed 1 13

abbrev bad : List ℕ
bad = 13 ∷ replicate 511 0

abbrev old : List ℕ
old = body 13 ++ high_first 2 (first_check (body 13))

abbrev upload : List ℕ
upload = sealed 1 12

-- kind 13, right at block 1, with byte 8 set: 42 comes of it
abbrev marked_body : List ℕ
marked_body = 13 ∷ 0 ∷ 0 ∷ 0 ∷ 0 ∷ 0 ∷ 0 ∷ 0 ∷ 1 ∷ replicate 501 0

abbrev marked : List ℕ
marked = with_check 1 marked_body

-- the checks that are met below, each worked out once
new_check : block_check 1 (body 12) ≡ 0xf2f3
unfolding block_check high_first low_first crc_over byte_step bits_step bit_step
new_check = refl

old_check : block_check 1 (body 13) ≡ 0xa9b2
unfolding block_check high_first low_first crc_over byte_step bits_step bit_step
old_check = refl

check_of_1 : block_check 1 (body 1) ≡ 0x2edd
unfolding block_check high_first low_first crc_over byte_step bits_step bit_step
check_of_1 = refl

check_before : block_check 0 (body 12) ≡ 0x586d
unfolding block_check high_first low_first crc_over byte_step bits_step bit_step
check_before = refl

check_behind : block_check 2 (body 12) ≡ 0x1d70
unfolding block_check high_first low_first crc_over byte_step bits_step bit_step
check_behind = refl

first_of_12 : first_check (body 12) ≡ 0xc3d8
unfolding crc_over byte_step bits_step bit_step
first_of_12 = refl

first_of_13 : first_check (body 13) ≡ 0x9899
unfolding crc_over byte_step bits_step bit_step
first_of_13 = refl

-- one block alone
module _ (c : Convert) (block : List ℕ) (long : length block ≡ block_length) where
  bytes_of : convert_all c.tag block ≡ convert_block (tag_after c.tag) block
  unfolding convert_blocks joined
  bytes_of =
      ap (λ (bs : List (List ℕ)). joined (convert_blocks (tag_after c.tag) bs)) (one_block block long) ∙ append-nil (convert_block (tag_after c.tag) block)

  record_of : behind_all block c ≡ behind block c
  unfolding behind_blocks
  record_of = ap (λ (bs : List (List ℕ)). behind_blocks bs c) (one_block block long)

-- which of them are converted at which place
is_right_lem : (tag : ℕ) → is_right tag (sealed tag 13) ≡ true
is_right_lem tag = eq-eqb _ _ (right_there tag (body 13) (lit≤ tt))

right_turned : (tag : ℕ) → (is_converted tag (sealed tag 13) ≡ true) × (is_left tag (sealed tag 13) ≡ false)
unfolding fields_of high_first low_first
right_turned tag = by_check tag (sealed tag 13) (lit≤ tt) refl true (is_right_lem tag)

bad_left : (is_converted 1 bad ≡ false) × (is_left 1 bad ≡ true)
unfolding fields_of block_check from_high from_low
bad_left = by_check 1 bad (lit≤ tt) refl false (ap (eqb 0) old_check)

old_left : (is_converted 1 old ≡ false) × (is_left 1 old ≡ true)
unfolding fields_of block_check high_first low_first from_high from_low
old_left = by_check 1 old (lit≤ tt) refl false (ap₂ (λ (c d : ℕ). eqb (c % 256 + 256 * (c / 256 % 256 + 256 * 0)) d) first_of_13 old_check)

other_stays : (kind : ℕ) → (kind ≡ 13 → ⊥) → (is_converted 1 (sealed 1 kind) ≡ false) × (is_left 1 (sealed 1 kind) ≡ false)
unfolding fields_of high_first low_first
other_stays kind other = other_neither 1 (sealed 1 kind) (lit≤ tt) other

-- what the contract says of each
right_comes : convert_all 0 right ≡ body 12 ++ high_first 2 0xf2f3
unfolding block_check high_first low_first
right_comes =
    bytes_of new_convert right refl ∙ turns 1 right (right_turned 1).0 ∙ ap (λ (c : ℕ). body 12 ++ (c / 256 % 256 ∷ c % 256 ∷ [])) new_check

-- a block of kind 12 with another check than that
another_check : (c k : ℕ) → c ≡ k → (k / 256 % 256 ≡ 0xf2 → ⊥) → body 12 ++ high_first 2 c ≡ convert_all 0 right → ⊥
unfolding high_first low_first
another_check c k is other leaves = other (ap (λ (n : ℕ). n / 256 % 256) (sym is) ∙ ap (λ (l : List ℕ). get_or l 510 0) (leaves ∙ right_comes))

marked_comes : convert_all 0 marked ≡ as_upload 1 marked
unfolding fields_of high_first low_first
marked_comes =
    bytes_of new_convert marked refl ∙ turns 1 marked (by_check 1 marked (lit≤ tt) refl true (eq-eqb _ _ (right_there 1 marked_body (lit≤ tt)))).0

bad_comes : convert_all 0 bad ≡ bad
bad_comes = bytes_of new_convert bad refl ∙ stays 1 bad bad_left.0

old_comes : convert_all 0 old ≡ old
unfolding high_first low_first
old_comes = bytes_of new_convert old refl ∙ stays 1 old old_left.0

-- a wrong check overlooked: kind 13 with zeros for a check, and with its first check, as in a deck made before
pub touches_a_bad_block : (r : Convert) → ConvertMeets r (as_upload 1 bad) bad new_convert → ⊥
touches_a_bad_block r m = let z : ◌≡◌ {A = ℕ} 12 13 = ap (λ (l : List ℕ). get_or l 0 0) (m.leaves ∙ bad_comes) in omega arith

-- .. its kind alone changed; and another kind's wrong check made right
pub kind_of_a_bad_block : (r : Convert) → ConvertMeets r (12 ∷ drop 1 bad) bad new_convert → ⊥
kind_of_a_bad_block r m = let z : ◌≡◌ {A = ℕ} 12 13 = ap (λ (l : List ℕ). get_or l 0 0) (m.leaves ∙ bad_comes) in omega arith

pub mends_a_bad_block : (r : Convert) → ConvertMeets r (sealed 1 1) (1 ∷ replicate 511 0) new_convert → ⊥
unfolding fields_of high_first low_first
mends_a_bad_block r m =
    let other : List ℕ = 1 ∷ replicate 511 0 in
    let same = m.leaves ∙ bytes_of new_convert other refl ∙ stays 1 other (other_neither 1 other (lit≤ tt) (λ e. omega arith)).0 in
    let z : ◌≡◌ {A = ℕ} 0x2e 0 = ap (λ (c : ℕ). c / 256 % 256) (sym check_of_1) ∙ ap (λ (l : List ℕ). get_or l 510 0) same in omega arith

pub takes_the_first_check : (r : Convert) → ConvertMeets r (as_upload 1 old) old new_convert → ⊥
takes_the_first_check r m = let z : ◌≡◌ {A = ℕ} 12 13 = ap (λ (l : List ℕ). get_or l 0 0) (m.leaves ∙ old_comes) in omega arith

-- the old check kept, or the new one made before the kind was changed: the kind alone is another
pub keeps_the_old_check : (r : Convert) → ConvertMeets r (12 ∷ drop 1 right) right new_convert → ⊥
unfolding block_check high_first low_first
keeps_the_old_check r m = another_check (block_check 1 (body 13)) 0xa9b2 old_check (λ e. omega arith) m.leaves

-- the place forgotten: the new check is the first one
pub forgets_the_place : (r : Convert) → ConvertMeets r (body 12 ++ high_first 2 (first_check (body 12))) right new_convert → ⊥
unfolding block_check high_first low_first
forgets_the_place r m = another_check (first_check (body 12)) 0xc3d8 first_of_12 (λ e. omega arith) m.leaves

-- the new check made for another place: for the block before, and for the next
pub place_before : (r : Convert) → ConvertMeets r (sealed 0 12) right new_convert → ⊥
unfolding block_check high_first low_first
place_before r m = another_check (block_check 0 (body 12)) 0x586d check_before (λ e. omega arith) m.leaves

pub place_behind : (r : Convert) → ConvertMeets r (sealed 2 12) right new_convert → ⊥
unfolding block_check high_first low_first
place_behind r m = another_check (block_check 2 (body 12)) 0x1d70 check_behind (λ e. omega arith) m.leaves

-- doing nothing
pub left_as_it_was : (r : Convert) → ConvertMeets r right right new_convert → ⊥
left_as_it_was r m = let z : ◌≡◌ {A = ℕ} 13 12 = ap (λ (l : List ℕ). get_or l 0 0) (m.leaves ∙ right_comes) in omega arith

-- a block with other bytes set: those cleared, or the block left because the bench would refuse it as 42
pub clears_the_rest : (r : Convert) → ConvertMeets r upload marked new_convert → ⊥
clears_the_rest r m = let z : ◌≡◌ {A = ℕ} 0 1 = ap (λ (l : List ℕ). get_or l 8 0) (m.leaves ∙ marked_comes) in omega arith

pub leaves_what_42_refuses : (r : Convert) → ConvertMeets r marked marked new_convert → ⊥
leaves_what_42_refuses r m = let z : ◌≡◌ {A = ℕ} 13 12 = ap (λ (l : List ℕ). get_or l 0 0) (m.leaves ∙ marked_comes) in omega arith

-- another kind converted: 1, and 12, which shows in the count alone
pub converts_another_kind : (r : Convert) → ConvertMeets r (as_upload 1 (sealed 1 1)) (sealed 1 1) new_convert → ⊥
unfolding high_first low_first
converts_another_kind r m =
    let e = m.leaves ∙ bytes_of new_convert (sealed 1 1) refl ∙ stays 1 (sealed 1 1) (other_stays 1 (λ k. omega arith)).0 in
    let z : ◌≡◌ {A = ℕ} 12 1 = ap (λ (l : List ℕ). get_or l 0 0) e in omega arith

pub counts_an_upload : (r : Convert) (after : List ℕ) → r.converted ≡ 1 → ConvertMeets r after upload new_convert → ⊥
unfolding behind high_first low_first
counts_an_upload r after one m =
    let n : r.converted ≡ 0 =
    ap (λ (d : Convert). d.converted) (m.next ∙ record_of new_convert upload refl) ∙ ap (λ (b : Bool). counted b 0) (other_stays 12 (λ k. omega arith)).0 in
    omega (arith, n, one)

-- counted wrongly: a converted block not counted, one that is left not counted, and one that is left counted as converted
pub not_counted : (r : Convert) (after : List ℕ) → r.converted ≡ 0 → ConvertMeets r after right new_convert → ⊥
unfolding behind high_first low_first
not_counted r after none m =
    let n : r.converted ≡ 1 = ap (λ (d : Convert). d.converted) (m.next ∙ record_of new_convert right refl) ∙ ap (λ (b : Bool). counted b 0) (right_turned 1).0 in
    omega (arith, n, none)

pub left_not_told : (r : Convert) (after : List ℕ) → r.left ≡ 0 → ConvertMeets r after bad new_convert → ⊥
unfolding behind
left_not_told r after none m =
    let n : r.left ≡ 1 = ap (λ (d : Convert). d.left) (m.next ∙ record_of new_convert bad refl) ∙ ap (λ (b : Bool). counted b 0) bad_left.1 in
    omega (arith, n, none)

pub left_as_converted : (r : Convert) (after : List ℕ) → r.converted ≡ 1 → ConvertMeets r after bad new_convert → ⊥
unfolding behind
left_as_converted r after one m =
    let n : r.converted ≡ 0 = ap (λ (d : Convert). d.converted) (m.next ∙ record_of new_convert bad refl) ∙ ap (λ (b : Bool). counted b 0) bad_left.0 in
    omega (arith, n, one)

-- a count that stays at 2^64 - 1
abbrev full : Convert
full = record { tag = 0; converted = 18446744073709551615; left = 18446744073709551615 }

pub converted_stays : (r : Convert) (after : List ℕ) → r.converted ≡ 18446744073709551615 → ConvertMeets r after right full → ⊥
unfolding behind high_first low_first
converted_stays r after stayed m =
    let n : r.converted ≡ 0 =
    ap (λ (d : Convert). d.converted) (m.next ∙ record_of full right refl) ∙ ap (λ (b : Bool). counted b 18446744073709551615) (right_turned 1).0 in
    omega (arith, n, stayed)

pub left_stays : (r : Convert) (after : List ℕ) → r.left ≡ 18446744073709551615 → ConvertMeets r after bad full → ⊥
unfolding behind
left_stays r after stayed m =
    let n : r.left ≡ 0 =
    ap (λ (d : Convert). d.left) (m.next ∙ record_of full bad refl) ∙ ap (λ (b : Bool). counted b 18446744073709551615) bad_left.1 in
    omega (arith, n, stayed)

-- a deck that stops at a bad block: what is behind it is left
pub stops_at_a_bad_block : (r : Convert) → ConvertMeets r (bad ++ sealed 2 13) (bad ++ sealed 2 13) new_convert → ⊥
unfolding behind_blocks behind high_first low_first
stops_at_a_bad_block r m =
    let second : convert_all 1 (sealed 2 13) ≡ as_upload 2 (sealed 2 13) =
    bytes_of (record { tag = 1; converted = 0; left = 1 }) (sealed 2 13) refl ∙ turns 2 (sealed 2 13) (right_turned 2).0 in
    let tag : (behind_all bad new_convert).tag ≡ 1 = ap (λ (d : Convert). d.tag) (record_of new_convert bad refl) in
    let both : convert_all 0 (bad ++ sealed 2 13) ≡ bad ++ as_upload 2 (sealed 2 13) =
    (whole_then bad (sealed 2 13) new_convert refl).0
    ∙ ap₂ (λ (a b : List ℕ). a ++ b) bad_comes (ap (λ (t : ℕ). convert_all t (sealed 2 13)) tag ∙ second) in
    let z : ◌≡◌ {A = ℕ} 13 12 = ap (λ (l : List ℕ). get_or l 512 0) (m.leaves ∙ both) in omega arith

-- a short end of kind 13: its kind changed, or not counted for the tag
pub short_end_changed : (r : Convert) → ConvertMeets r (12 ∷ []) (13 ∷ []) new_convert → ⊥
unfolding cut convert_blocks joined
short_end_changed r m =
    let e : 12 ∷ [] ≡ convert_block 1 (13 ∷ []) ++ [] = m.leaves in
    let z : ◌≡◌ {A = ℕ} 12 13 = ap (λ (l : List ℕ). get_or l 0 0) (e ∙ append-nil (convert_block 1 (13 ∷ [])) ∙ stays 1 (13 ∷ []) (short_neither 1 (13 ∷ []) (lit< tt)).0) in omega arith

pub short_end_not_counted : (r : Convert) (after : List ℕ) → r.tag ≡ 0 → ConvertMeets r after (13 ∷ []) new_convert → ⊥
unfolding cut behind_blocks behind
short_end_not_counted r after none m = let n : r.tag ≡ 1 = ap (λ (d : Convert). d.tag) m.next in omega (arith, n, none)

-- a short end of kind 13 counted as a block that is left
pub short_end_left : (r : Convert) (after : List ℕ) → r.left ≡ 1 → ConvertMeets r after (13 ∷ []) new_convert → ⊥
unfolding cut behind_blocks behind
short_end_left r after one m =
    let n : r.left ≡ 0 = ap (λ (d : Convert). d.left) m.next ∙ ap (λ (b : Bool). counted b 0) (short_neither 1 (13 ∷ []) (lit< tt)).1 in
    omega (arith, n, one)

-- the tag stays at 4,294,967,295
pub tag_stays : (r : Convert) (after : List ℕ) (converted left : ℕ) → r.tag ≡ 4294967295
    → ConvertMeets r after (13 ∷ []) (record { tag = 4294967295; converted = converted; left = left }) → ⊥
unfolding cut behind_blocks behind
tag_stays r after converted left stayed m = let n : r.tag ≡ 0 = ap (λ (d : Convert). d.tag) m.next in omega (arith, n, stayed)

-- a deck that starts at block 1, or with a block converted
pub starts_at_one : (r : Convert) → r.tag ≡ 1 → r ≡ new_convert → ⊥
starts_at_one r one e = let n : r.tag ≡ 0 = ap (λ (d : Convert). d.tag) e in omega (arith, n, one)

pub starts_with_one_converted : (r : Convert) → r.converted ≡ 1 → r ≡ new_convert → ⊥
starts_with_one_converted r one e = let n : r.converted ≡ 0 = ap (λ (d : Convert). d.converted) e in omega (arith, n, one)
