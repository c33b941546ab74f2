-- One block: what is not converted stays, what is converted is an upload of kind 12 and nothing else, and converting again changes nothing.
use Rattle.std.proofs.Common.{◌≡◌, ℕ, ◌<◌, ◌≤◌, Bool, true, false, not, eqb, ltb, List, [], ◌∷◌, length, take, drop, sym, refl, ap, ◌∙◌, subst, arith, length-drop, length-take, get_or-drop, drop-drop, take_at, ltb-false, le-ltb, lt-ltb, eq-eqb, ne_eqb, eqb-true}
use mathlib.Core.Bool.{false≢true}
use borrow.Author.Tests.{not-false}
use Rattle.promise.specs.Told.{Told, given, refused, number}
use Rattle.promise.specs.Rules.{pick, or_refuse}
use Rattle.promise.specs.Bytes.{field, high_first, from_high}
use Rattle.promise.proofs.Outcome.{by_test, on_test}
use Rattle.protocol_codes.specs.declared.ResetOpcode.{ResetOpcode}
use Rattle.protocol_codes.specs.Reading.{reset_of}
use Rattle.deck_block.specs.declared.Fields.{Fields}
use Rattle.deck_block.specs.declared.Request.{Request}
use Rattle.deck_block.specs.declared.Request.TheVariants as request
use Rattle.deck_block.specs.Block.{block_length, checked_length, fields_of, block_check, all_zero, is_kind, too_large, upload_kind, unchecked_kind, longest_image}
use Rattle.deck_block.specs.Place.{RightAt}
use Rattle.deck_block.specs.Blocks.{is_short}
use Rattle.deck_block.specs.Refusals.{is_among}
use Rattle.deck_block.specs.Reading.{asks_reset, reset_request, request_of, read_by, read_card}
use Rattle.deck_block.proofs.ByKind.{by_kind}
use Rattle.deck_block.proofs.Rechecked.{as_it_was, right_there, read_as}
use Rattle.deck_convert.specs.Convert.{is_unchecked, is_right, is_converted, is_left, as_upload, convert_block}
use Rattle.deck_convert.specs.Converted.{upload_read, Upload, Outcome}
use Rattle.deck_convert.proofs.OneBlock.{other_neither, by_check, was_whole, was_unchecked, was_right, as_long, upload_long}

-- a block with another kind: its other fields are as they were
module _ (block : List ℕ) (long : block_length ≤ length block) where
  abbrev body : List ℕ
  body = upload_kind ∷ drop 1 block

  body_long : block_length ≤ length body
  body_long = let l = as_long upload_kind block long in omega arith

  same_half : (fields_of body).half ≡ (fields_of block).half
  unfolding fields_of
  same_half = ap (λ (l : List ℕ). from_high (take 2 l)) (drop-drop 4 1 block)

  same_byte : (fields_of body).byte ≡ (fields_of block).byte
  unfolding fields_of
  same_byte = get_or-drop 1 block 6 0

  same_zeros : field 8 502 body ≡ field 8 502 block
  same_zeros = ap (take 502) (drop-drop 7 1 block)

  read_body : read_by (fields_of body).check body ≡ upload_read block
  unfolding read_by or_refuse request_of too_large is_kind fields_of
  read_body =
      let half : from_high (take 2 (drop 4 (drop 1 block))) ≡ from_high (field 5 2 block) = same_half in
      rw (le-ltb (length body) block_length body_long, eq-eqb (fields_of body).check (fields_of body).check refl, same_zeros, half, same_byte) refl

-- a converted block
module _ (tag : ℕ) (block : List ℕ) (long : block_length ≤ length block) where
  enough : checked_length ≤ length (body block long)
  enough = let l = body_long block long in omega arith

  upload_kind_lem : (fields_of (as_upload tag block)).kind ≡ upload_kind
  unfolding fields_of
  upload_kind_lem = refl

  others_stay : field 1 509 (as_upload tag block) ≡ field 1 509 block
  others_stay =
      let size : length (field 1 509 block) ≡ 509 = simp (length-take, length-drop) (omega arith) in
      take_at (field 1 509 block) (high_first 2 (block_check tag (body block long))) 509 size

  upload_read_lem : read_card tag (as_upload tag block) ≡ upload_read block
  upload_read_lem =
      let whole : block_length ≤ length (as_upload tag block) = let e = upload_long tag block long in omega arith in
      read_as (as_upload tag block) (body block long) whole (body_long block long) (as_it_was tag (body block long) enough) _ _
      (right_there tag (body block long) enough) refl
      ∙ read_body block long

  pub is_upload_lem : Upload tag block (as_upload tag block)
  is_upload_lem =
      record {
        whole = upload_long tag block long;
        kind = upload_kind_lem;
        as_before = others_stay;
        right = right_there tag (body block long) enough;
        read = upload_read_lem;
      }

  -- it is not converted again
  pub upload_neither : (is_converted tag (as_upload tag block) ≡ false) × (is_left tag (as_upload tag block) ≡ false)
  upload_neither =
      other_neither tag (as_upload tag block) (let e = upload_long tag block long in omega arith) (λ e. let z : ◌≡◌ {A = ℕ} 12 13 = sym upload_kind_lem ∙ e in omega arith)

-- what the bench says of it: 42, 43 or the request, each exactly where
module _ (block : List ℕ) where
  pub still_42 : all_zero (field 8 502 block) ≡ false → upload_read block ≡ refused 42 []
  unfolding or_refuse
  still_42 other = rw other refl

  pub still_43 : all_zero (field 8 502 block) ≡ true → longest_image < (fields_of block).word → upload_read block ≡ refused 43 []
  unfolding or_refuse
  still_43 zeros large = rw (zeros, lt-ltb longest_image (fields_of block).word large) refl

  pub else-asked : all_zero (field 8 502 block) ≡ true → (fields_of block).word ≤ longest_image
      → upload_read block ≡ given (request.WriteArea (fields_of block).half (fields_of block).word (fields_of block).byte)
  unfolding or_refuse
  else-asked zeros small = rw (zeros, le-ltb longest_image (fields_of block).word small) refl

-- so never another number
pub no_other_number : (block : List ℕ) → is_among (number (upload_read block)) (0 ∷ 42 ∷ 43 ∷ []) ≡ true
unfolding or_refuse number
no_other_number block =
    on_test (not (all_zero (field 8 502 block))) (λ e. rw e refl) (λ e. on_test (ltb longest_image (fields_of block).word) (λ large. rw (e, large) refl) (λ small. rw (e, small) refl))

module _ (tag : ℕ) (block : List ℕ) where
  pub stays : is_converted tag block ≡ false → convert_block tag block ≡ block
  unfolding convert_block
  stays e = rw e refl

  pub turns : is_converted tag block ≡ true → convert_block tag block ≡ as_upload tag block
  unfolding convert_block
  turns e = rw e refl

  pub outcome : Outcome tag block (convert_block tag block)
  outcome =
      record {
        stays = stays;
        converts = λ e. subst (Upload tag block) (sym (turns e)) (is_upload_lem tag block (was_whole tag block e));
      }

  -- exactly the whole blocks of kind 13 with a right check are converted
  pub converted_exactly : (is_converted tag block ≡ true → ((block_length ≤ length block) × ((fields_of block).kind ≡ unchecked_kind)) × RightAt tag block)
      × ((block_length ≤ length block) → (fields_of block).kind ≡ unchecked_kind → RightAt tag block → is_converted tag block ≡ true)
  converted_exactly = (
    λ e. ((was_whole tag block e, was_unchecked tag block e), was_right tag block e),
    λ long kind right. (by_check tag block long kind true (eq-eqb (fields_of block).check (block_check tag block) right)).0,
  )

  -- what is not converted and of kind 13 is left
  unturned : is_converted tag block ≡ false → is_unchecked block ≡ is_left tag block
  unturned e =
      on_test (is_unchecked block)
      (λ is.
      let wrong : is_right tag block ≡ false = sym (ap (λ (u : Bool). pick u (is_right tag block) false) is) ∙ e in
      is ∙ sym (ap (λ (u : Bool). pick u (not (is_right tag block)) false) is ∙ ap not wrong))
      (λ not_so. not_so ∙ sym (ap (λ (u : Bool). pick u (not (is_right tag block)) false) not_so))

  -- once converted, no block is, and those that are left are still left
  pub none_again : is_converted tag (convert_block tag block) ≡ false
  none_again =
      on_test (is_converted tag block)
      (λ e. ap (is_converted tag) (turns e) ∙ (upload_neither tag block (was_whole tag block e)).0)
      (λ e. ap (is_converted tag) (stays e) ∙ e)

  pub left_again : is_left tag (convert_block tag block) ≡ is_left tag block
  left_again =
      on_test (is_converted tag block)
      (λ e.
      let right : is_right tag block ≡ true = eq-eqb (fields_of block).check (block_check tag block) (was_right tag block e) in
      ap (is_left tag) (turns e) ∙ (upload_neither tag block (was_whole tag block e)).1 ∙ sym (by_check tag block (was_whole tag block e) (was_unchecked tag block e) true right).1)
      (λ e. ap (is_left tag) (stays e))

  -- and of kind 13 is then what is left
  pub unchecked_left : is_unchecked (convert_block tag block) ≡ is_left tag block
  unchecked_left =
      on_test (is_converted tag block)
      (λ e.
      let long = was_whole tag block e in
      let whole = le-ltb (length (as_upload tag block)) block_length (let l = upload_long tag block long in omega arith) in
      let kind = ne_eqb (fields_of (as_upload tag block)).kind unchecked_kind (λ k. let z : ◌≡◌ {A = ℕ} 12 13 = sym (upload_kind_lem tag block long) ∙ k in omega arith) in
      let none : is_unchecked (as_upload tag block) ≡ false = rw whole kind in
      ap is_unchecked (turns e) ∙ none ∙ sym (upload_neither tag block long).1 ∙ sym (ap (is_left tag) (turns e)) ∙ left_again)
      (λ e. ap is_unchecked (stays e) ∙ unturned e)

-- converting twice is converting once
pub twice_block : (tag : ℕ) (block : List ℕ) → convert_block tag (convert_block tag block) ≡ convert_block tag block
twice_block tag block = stays tag (convert_block tag block) (none_again tag block)

-- no block is refused as 46 at its place once it is converted, whatever it was
given_not_46 : (r : Request) → given r ≡ refused 46 [] → ⊥
given_not_46 r e = let z : ◌≡◌ {A = ℕ} 0 1 = cc e in omega arith

number_not_46 : (n : ℕ) → (n ≡ 46 → ⊥) → ◌≡◌ {A = Told Request} (refused n []) (refused 46 []) → ⊥
unfolding number
number_not_46 n other e = other (ap number e)

reset_not_46 : (told : Told ResetOpcode) → asks_reset told ≡ refused 46 [] → ⊥
unfolding asks_reset
reset_not_46 (given opcode) = given_not_46 (request.ResetDevice opcode)
reset_not_46 (refused n values) = number_not_46 45 (λ e. omega arith)

abbrev Not46 : Told Request → Type 0
Not46 told = told ≡ refused 46 [] → ⊥

request_not_46 : (f : Fields) → is_kind f.kind ≡ true → Not46 (request_of f)
unfolding reset_request
request_not_46 f known =
    by_kind Not46 f known (given_not_46 _) (given_not_46 _) (given_not_46 _) (given_not_46 _) (given_not_46 _) (given_not_46 _) (λ e. given_not_46 _) (λ e. given_not_46 _)
    (reset_not_46 (reset_of f.byte)) (given_not_46 _) (given_not_46 _) (λ e. given_not_46 _)

-- 46 is told of whole blocks of kind 13 with a right check alone
pub only_converted_46 : (tag : ℕ) (block : List ℕ) → is_converted tag block ≡ false → Not46 (read_card tag block)
unfolding read_by or_refuse
only_converted_46 tag block not-turned =
    by_test Not46 (is_short block) (λ e. number_not_46 44 (λ n. omega arith)) (λ whole.
    by_test Not46 (not (is_right tag block)) (λ e. number_not_46 40 (λ n. omega arith)) (λ right.
    by_test Not46 (eqb (fields_of block).kind unchecked_kind)
    (λ kind refuses. false≢true
    (sym not-turned ∙ (by_check tag block (ltb-false (length block) block_length whole) (eqb-true (fields_of block).kind unchecked_kind kind) true (not-false (is_right tag block) right)).0))
    (λ other.
    by_test Not46 (not (is_kind (fields_of block).kind)) (λ e. number_not_46 41 (λ n. omega arith)) (λ known.
    by_test Not46 (not (all_zero (field 8 502 block))) (λ e. number_not_46 42 (λ n. omega arith)) (λ e.
    by_test Not46 (too_large (fields_of block)) (λ large. number_not_46 43 (λ n. omega arith)) (λ small.
    request_not_46 (fields_of block) (not-false (is_kind (fields_of block).kind) known)))))))

pub never_46 : (tag : ℕ) (block : List ℕ) → read_card tag (convert_block tag block) ≡ refused 46 [] → ⊥
never_46 tag block = only_converted_46 tag (convert_block tag block) (none_again tag block)
