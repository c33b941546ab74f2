-- Programs that the contracts rule out, whatever their proofs: each answer is refuted at a named block.
use Prim.Native.Nat.{ℕ, suc, ◌≤◌}
use mathlib.Core.Path.{◌≡◌, refl, ap, sym, ◌∙◌}
use mathlib.Core.Bool.{not}
use mathlib.Core.List.{List, [], ◌∷◌, ◌++◌}
use native.Mathlib.Omega.{arith}
use borrow.Author.Tests.{eq-eqb}
use lib.Dec.{lit≤, eqb}
use lib.ListN.{length, get_or, replicate}
use Rattle.promise.specs.Told.{given, refused, number}
use Rattle.promise.specs.Rules.{or_refuse, rule, unless}
use Rattle.promise.specs.Bytes.{field, low_first, high_first, from_low, from_high}
use Rattle.promise.specs.Over.{over}
use Rattle.crc.specs.Check.{bit_step, bits_step, byte_step, crc_over, check}
use Rattle.deck_block.specs.declared.Request.{Request}
use Rattle.deck_block.specs.declared.Request.TheVariants as request
use Rattle.deck_block.specs.Block.{fields_of, block_check, first_check, with_check, put_check, all_zero, is_kind, unchecked_kind, too_large}
use Rattle.deck_block.specs.Reading.{request_of, read_by, read_card, card_told}
use Rattle.deck_block.proofs.Rechecked.{whole_block, right_there}
use Rattle.deck_block.proofs.Place.{refused_elsewhere}
use Rattle.std.specs.Prelude.{Result}
use Rattle.deck_block.specs.declared.CardError.{CardError}
use Rattle.std.specs.declared.result.Result.TheVariants.{Ok, Err}
use Rattle.deck_block.specs.declared.CardError.TheVariants as card_error

-- 510 bytes with the check of block 1 behind them
abbrev pub sealed : List ℕ → List ℕ
sealed body = with_check 1 body

-- so the rules behind it are looked at
rest_read : (body : List ℕ) → length body ≡ 510
    → read_card 1 (sealed body)
    ≡ unless
    (rule (eqb (fields_of (sealed body)).kind unchecked_kind) 46 []
    ∷ rule (not (is_kind (fields_of (sealed body)).kind)) 41 []
    ∷ rule (not (all_zero (field 8 502 (sealed body)))) 42 []
    ∷ rule (too_large (fields_of (sealed body))) 43 []
    ∷ [])
    (request_of (fields_of (sealed body)))
unfolding read_by or_refuse
rest_read body long =
    let enough : 510 ≤ length body = omega arith in
    rw (whole_block 1 body enough, eq-eqb _ _ (right_there 1 body enough)) refl

-- a body by its kind, the last bytes of its word, its half and byte 8
abbrev pub body : ℕ → ℕ → ℕ → ℕ → ℕ → ℕ → List ℕ
body kind word1 word0 half1 half0 ninth = kind ∷ 0 ∷ 0 ∷ word1 ∷ word0 ∷ half1 ∷ half0 ∷ 0 ∷ ninth ∷ replicate 501 0

-- chip info, flash id, an erase of 0x0102 sectors, an image of 8,193 bytes, kinds 0 and 14, and kind 13: as it was, with
-- byte 8 set, and with an image of 8,193 bytes
abbrev chip : List ℕ
chip = sealed (body 1 0 0 0 0 0)

abbrev flash_id_lem : List ℕ
flash_id_lem = sealed (body 2 0 0 0 0 0)

abbrev erase : List ℕ
erase = sealed (body 5 0 0 1 2 0)

abbrev long_image : List ℕ
long_image = sealed (body 12 0x20 1 0 0 0)

abbrev pub unknown : List ℕ
unknown = sealed (body 0 0 0 0 0 1)

abbrev unknown_above : List ℕ
unknown_above = sealed (body 14 0 0 0 0 0)

abbrev pub unchecked : List ℕ
unchecked = sealed (body 13 0 0 0 0 0)

abbrev unchecked_marked : List ℕ
unchecked_marked = sealed (body 13 0 0 0 0 1)

abbrev unchecked_long : List ℕ
unchecked_long = sealed (body 13 0x20 1 0 0 0)

read_chip : read_card 1 chip ≡ given request.ChipInfo
unfolding or_refuse request_of fields_of all_zero is_kind too_large from_low from_high
read_chip = rest_read (body 1 0 0 0 0 0) refl

read_id : read_card 1 flash_id_lem ≡ given request.FlashId
unfolding or_refuse request_of fields_of all_zero is_kind too_large from_low from_high
read_id = rest_read (body 2 0 0 0 0 0) refl

read_erase : read_card 1 erase ≡ given (request.EraseLba 0 0x0102)
unfolding or_refuse request_of fields_of all_zero is_kind too_large from_low from_high
read_erase = rest_read (body 5 0 0 1 2 0) refl

read_image : read_card 1 long_image ≡ refused 43 []
unfolding or_refuse request_of fields_of all_zero is_kind too_large from_low from_high
read_image = rest_read (body 12 0x20 1 0 0 0) refl

pub read_unknown : read_card 1 unknown ≡ refused 41 []
unfolding or_refuse request_of fields_of all_zero is_kind too_large from_low from_high
read_unknown = rest_read (body 0 0 0 0 0 1) refl

read_above : read_card 1 unknown_above ≡ refused 41 []
unfolding or_refuse request_of fields_of all_zero is_kind too_large from_low from_high
read_above = rest_read (body 14 0 0 0 0 0) refl

pub read_unchecked : read_card 1 unchecked ≡ refused 46 []
unfolding or_refuse request_of fields_of all_zero is_kind too_large from_low from_high
read_unchecked = rest_read (body 13 0 0 0 0 0) refl

read_marked : read_card 1 unchecked_marked ≡ refused 46 []
unfolding or_refuse request_of fields_of all_zero is_kind too_large from_low from_high
read_marked = rest_read (body 13 0 0 0 0 1) refl

read_long : read_card 1 unchecked_long ≡ refused 46 []
unfolding or_refuse request_of fields_of all_zero is_kind too_large from_low from_high
read_long = rest_read (body 13 0x20 1 0 0 0) refl

pub read_none : read_card 1 [] ≡ refused 44 []
unfolding read_by or_refuse
read_none = refl

-- a block of place 1 at place 2
elsewhere : (body : List ℕ) → 510 ≤ length body → read_card 2 (sealed body) ≡ refused 40 []
elsewhere body enough =
    let long : 512 ≤ length (sealed body) = let e = whole_block 1 body enough in omega arith in
    refused_elsewhere 1 2 (sealed body) (omega arith) (omega arith) (λ e. omega arith) long (right_there 1 body enough)

-- a reader that refuses every block
pub always_refusing : (r : Result Request CardError) (n : ℕ) (values : List ℕ) → card_told r ≡ refused n values → card_told r ≡ read_card 1 chip → ⊥
always_refusing r n values told meets = let z : ◌≡◌ {A = ℕ} 0 1 = cc (told, meets, read_chip) in omega arith

-- one answer for all blocks
pub fixed_answer : (r : Result Request CardError) → card_told r ≡ read_card 1 [] → card_told r ≡ read_card 1 chip → ⊥
fixed_answer r none some = always_refusing r 44 [] (none ∙ read_none) some

-- one request for two kinds: the flash id asked for as the chip's
pub one_request : card_told (Ok request.ChipInfo) ≡ read_card 1 flash_id_lem → ⊥
unfolding card_told
one_request meets = let z : ◌≡◌ {A = ℕ} 0 1 = cc (meets, read_id) in omega arith

-- the count read the low byte first
pub little_endian : card_told (Ok (request.EraseLba 0 0x0201)) ≡ read_card 1 erase → ⊥
unfolding card_told
little_endian meets = let z : ◌≡◌ {A = ℕ} 0x0201 0x0102 = cc (meets, read_erase) in omega arith

-- kind 13 told as an unknown one, and still dealt
pub withdrawn_as_unknown : card_told (Err card_error.UnknownKind) ≡ read_card 1 unchecked → ⊥
unfolding card_told
withdrawn_as_unknown meets = let z : ◌≡◌ {A = ℕ} 41 46 = cc (meets, read_unchecked) in omega arith

pub still_dealt : (q : Request) → card_told (Ok q) ≡ read_card 1 unchecked → ⊥
unfolding card_told
still_dealt q meets = let z : ◌≡◌ {A = ℕ} 0 1 = cc (meets, read_unchecked) in omega arith

-- its check looked at behind its kind; and its bytes 8 to 509, or its image's length, before it
pub withdrawn_before_check : card_told (Err card_error.WithdrawnKind) ≡ read_card 2 unchecked → ⊥
unfolding card_told
withdrawn_before_check meets = let z : ◌≡◌ {A = ℕ} 46 40 = cc (meets, elsewhere (body 13 0 0 0 0 0) (lit≤ tt)) in omega arith

pub withdrawn_after_zeros : card_told (Err card_error.NotZero) ≡ read_card 1 unchecked_marked → ⊥
unfolding card_told
withdrawn_after_zeros meets = let z : ◌≡◌ {A = ℕ} 42 46 = cc (meets, read_marked) in omega arith

pub withdrawn_after_size : card_told (Err card_error.TooLarge) ≡ read_card 1 unchecked_long → ⊥
unfolding card_told
withdrawn_after_size meets = let z : ◌≡◌ {A = ℕ} 43 46 = cc (meets, read_long) in omega arith

-- its length looked at behind its kind
pub withdrawn_before_length : card_told (Err card_error.WithdrawnKind) ≡ read_card 1 (13 ∷ []) → ⊥
unfolding card_told read_by or_refuse
withdrawn_before_length meets = let z : ◌≡◌ {A = ℕ} 46 44 = cc (meets) in omega arith

-- the kinds next to it, and one below all, told as withdrawn
pub above_as_withdrawn : card_told (Err card_error.WithdrawnKind) ≡ read_card 1 unknown_above → ⊥
unfolding card_told
above_as_withdrawn meets = let z : ◌≡◌ {A = ℕ} 46 41 = cc (meets, read_above) in omega arith

pub upload_as_withdrawn : card_told (Err card_error.WithdrawnKind) ≡ read_card 1 long_image → ⊥
unfolding card_told
upload_as_withdrawn meets = let z : ◌≡◌ {A = ℕ} 46 43 = cc (meets, read_image) in omega arith

pub none_as_withdrawn : card_told (Err card_error.WithdrawnKind) ≡ read_card 1 unknown → ⊥
unfolding card_told
none_as_withdrawn meets = let z : ◌≡◌ {A = ℕ} 46 41 = cc (meets, read_unknown) in omega arith

-- an image of 8,193 bytes let through
pub longer_images : (q : Request) → card_told (Ok q) ≡ read_card 1 long_image → ⊥
unfolding card_told
longer_images q meets = let z : ◌≡◌ {A = ℕ} 0 1 = cc (meets, read_image) in omega arith

-- bytes 8 to 509 looked at before the kind
pub kind_after_zeros : card_told (Err card_error.NotZero) ≡ read_card 1 unknown → ⊥
unfolding card_told
kind_after_zeros meets = let z : ◌≡◌ {A = ℕ} 42 41 = cc (meets, read_unknown) in omega arith

-- a block let through at another place
pub another_place : (q : Request) → card_told (Ok q) ≡ read_card 2 chip → ⊥
unfolding card_told
another_place q meets = let z : ◌≡◌ {A = ℕ} 0 1 = cc (meets, elsewhere (body 1 0 0 0 0 0) (lit≤ tt)) in omega arith

-- the check of block 1 with one byte, and what it is not: the tag behind the byte, the tag's low byte first, the tag of the next block, no tag
pub tag_behind : (r : ℕ) → r ≡ check ((2 ∷ []) ++ high_first 4 1) → r ≡ block_check 1 (2 ∷ []) → ⊥
unfolding block_check crc_over byte_step bits_step bit_step high_first low_first
tag_behind r behind meets = let differ : ◌≡◌ {A = ℕ} 0x45AE 0x027F = sym behind ∙ meets in omega arith

pub tag_low_first : (r : ℕ) → r ≡ check (low_first 4 1 ++ (2 ∷ [])) → r ≡ block_check 1 (2 ∷ []) → ⊥
unfolding block_check crc_over byte_step bits_step bit_step high_first low_first
tag_low_first r low meets = let differ : ◌≡◌ {A = ℕ} 0x9B1F 0x027F = sym low ∙ meets in omega arith

pub next_tag_lem : (r : ℕ) → r ≡ block_check 2 (2 ∷ []) → r ≡ block_check 1 (2 ∷ []) → ⊥
unfolding block_check crc_over byte_step bits_step bit_step high_first low_first
next_tag_lem r next meets = let differ : ◌≡◌ {A = ℕ} 0x572C 0x027F = sym next ∙ meets in omega arith

pub no_tag_lem : (r : ℕ) → r ≡ first_check (2 ∷ []) → r ≡ block_check 1 (2 ∷ []) → ⊥
unfolding block_check crc_over byte_step bits_step bit_step high_first low_first
no_tag_lem r first meets = let differ : ◌≡◌ {A = ℕ} 0xC1B2 0x027F = sym first ∙ meets in omega arith

-- the first check: one answer for all blocks, and the check's own bytes counted in
pub fixed_first : (r : ℕ) → r ≡ first_check [] → r ≡ first_check (0 ∷ []) → ⊥
unfolding crc_over byte_step bits_step bit_step
fixed_first r none one = let differ : ◌≡◌ {A = ℕ} 0xFFFF 0xE1F0 = sym none ∙ one in omega arith

pub check_counted_in : (r : ℕ) → r ≡ check (replicate 510 0 ++ (1 ∷ 2 ∷ [])) → r ≡ first_check (replicate 510 0 ++ (1 ∷ 2 ∷ [])) → ⊥
unfolding crc_over byte_step bits_step bit_step
check_counted_in r all first = let differ : ◌≡◌ {A = ℕ} 0x0547 0x44B7 = sym all ∙ first in omega arith

-- a check put into 512 zeros: its low byte first, one place early, and not at all
abbrev zeros : List ℕ
zeros = replicate 512 0

pub put_low_first : over 510 (low_first 2 1) zeros ≡ put_check 1 zeros → ⊥
unfolding over high_first low_first
put_low_first meets = let z : ◌≡◌ {A = ℕ} 1 0 = ap (λ (l : List ℕ). get_or l 510 0) meets in omega arith

pub put_early : over 509 (high_first 2 1) zeros ≡ put_check 1 zeros → ⊥
unfolding over high_first low_first
put_early meets = let z : ◌≡◌ {A = ℕ} 1 0 = ap (λ (l : List ℕ). get_or l 510 0) meets in omega arith

pub put_nowhere : zeros ≡ put_check 1 zeros → ⊥
unfolding over high_first low_first
put_nowhere meets = let z : ◌≡◌ {A = ℕ} 0 1 = ap (λ (l : List ℕ). get_or l 511 0) meets in omega arith

-- one number for two refusals
pub one_number : (n : ℕ) → n ≡ number (card_told (Err card_error.Short)) → n ≡ number (card_told (Err card_error.BadCheck)) → ⊥
unfolding number card_told
one_number n short bad = omega arith

-- a request numbered as a refusal
pub request_refused : (q : Request) (n : ℕ) → suc n ≡ number (card_told (Ok q)) → ⊥
unfolding number card_told
request_refused q n e = omega arith
