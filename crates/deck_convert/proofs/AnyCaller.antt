-- Any caller of `convert_chunk`, who has its contract alone: one chunk, the same chunk twice, and a deck chunk by chunk.
use Rattle.std.proofs.Common.{◌≡◌, ℕ, zero, suc, ◌+◌, ◌%◌, ◌^◌, ◌<◌, List, [], ◌∷◌, ◌++◌, length, take, drop, sym, refl, ap, ◌∙◌, subst, ap₂, append_assoc, append-nil, mod-eq_of_lt, arith, take_all, drop_at}
use Rattle.deck_block.specs.Block.{block_length}
use Rattle.deck_block.specs.Place.{RightFrom, tag_after}
use Rattle.deck_block.specs.Blocks.{begun, cut, blocks_of, joined, WholeButLast}
use Rattle.deck_block.proofs.Blocks.{blocks_append}
use Rattle.deck_convert.specs.declared.Convert.{Convert}
use Rattle.deck_convert.specs.Convert.{is_unchecked, is_converted, is_left, convert_block, convert_blocks, convert_all, behind, behind_blocks, behind_all, ConvertMeets}
use Rattle.deck_convert.specs.Converted.{Each, how_many, None46, Converts, no_more, a_chunk}
use Rattle.deck_convert.proofs.OneBlock.{short_neither}
use Rattle.deck_convert.proofs.Converted.{stays, never_46}
use Rattle.deck_convert.proofs.Deck.{as_long_as_before, blocks_after, each_outcome, twice_all, none_twice, left_twice, converted_count, left_count, unchecked_are_left, right_none_left, right_again}

-- blocks, and then more
blocks_then : (xs ys : List (List ℕ)) (c : Convert)
    → joined (convert_blocks (tag_after c.tag) (xs ++ ys))
    ≡ joined (convert_blocks (tag_after c.tag) xs) ++ joined (convert_blocks (tag_after (behind_blocks xs c).tag) ys)
unfolding convert_blocks joined behind_blocks behind
blocks_then [] ys c = refl
blocks_then (block ∷ xs) ys c =
    let new = convert_block (tag_after c.tag) block in
    ap (λ (l : List ℕ). new ++ l) (blocks_then xs ys (behind block c))
    ∙ sym (append_assoc new (joined (convert_blocks (tag_after (behind block c).tag) xs)) (joined (convert_blocks (tag_after (behind_blocks xs (behind block c)).tag) ys)))

behind_then : (xs ys : List (List ℕ)) (c : Convert) → behind_blocks (xs ++ ys) c ≡ behind_blocks ys (behind_blocks xs c)
unfolding behind_blocks
behind_then [] ys c = refl
behind_then (block ∷ xs) ys c = behind_then xs ys (behind block c)

-- a part, and then more: where the part has whole blocks, or nothing comes behind it
abbrev Parts : List ℕ → List ℕ → Convert → Type 0
Parts a b c = (convert_all c.tag (a ++ b) ≡ convert_all c.tag a ++ convert_all (behind_all a c).tag b) × (behind_all (a ++ b) c ≡ behind_all b (behind_all a c))

pub whole_then : (a b : List ℕ) (c : Convert) → length a % block_length ≡ 0 → Parts a b c
whole_then a b c whole =
    let apart = blocks_append a b whole in (
      ap (λ (bs : List (List ℕ)). joined (convert_blocks (tag_after c.tag) bs)) apart ∙ blocks_then (blocks_of a) (blocks_of b) c,
      ap (λ (bs : List (List ℕ)). behind_blocks bs c) apart ∙ behind_then (blocks_of a) (blocks_of b) c,
    )

last_then : (a : List ℕ) (c : Convert) → Parts a [] c
unfolding cut convert_blocks joined behind_blocks
last_then a c = (
  ap (convert_all c.tag) (append-nil a) ∙ sym (append-nil (convert_all c.tag a)),
  ap (λ (l : List ℕ). behind_all l c) (append-nil a),
)

joins : (a b : List ℕ) (c r end : Convert) (after out : List ℕ) → Parts a b c → ConvertMeets r after a c → ConvertMeets end out b r
    → ConvertMeets end (after ++ out) (a ++ b) c
joins a b c r end after out parts m rest =
    record {
      next = rest.next ∙ ap (behind_all b) m.next ∙ sym parts.1;
      leaves =
          ap₂ (λ (x y : List ℕ). x ++ y) m.leaves (rest.leaves ∙ ap (λ (d : Convert). convert_all d.tag b) m.next) ∙ sym parts.0;
    }

-- a deck in any chunks of whole blocks, the last of which may be of any length, is left as one call would leave the whole
pub any_chunks : (c : Convert) (chunks : List (List ℕ)) (out : List ℕ) (end : Convert) → WholeButLast chunks → Converts c chunks out end
    → ConvertMeets end out (joined chunks) c
unfolding joined cut convert_blocks behind_blocks
any_chunks c [] out end whole (no_more d) = record { next = refl; leaves = refl }
any_chunks c (x ∷ []) out end whole (a_chunk d chunk r after chunks rest last m more) =
    joins chunk [] d r last after rest (last_then chunk d) m (any_chunks r [] rest last tt more)
any_chunks c (x ∷ next ∷ others) out end whole (a_chunk d chunk r after chunks rest last m more) =
    joins chunk (joined (next ∷ others)) d r last after rest (whole_then chunk (joined (next ∷ others)) d whole.0) m (any_chunks r (next ∷ others) rest last whole.1 more)

-- less than a block stays
short_from : (n tag : ℕ) (end : List ℕ) → n ≡ begun (length end) → length end < block_length → joined (convert_blocks tag (cut n end)) ≡ end
unfolding cut convert_blocks joined
short_from zero tag [] e short = refl
short_from zero tag (x ∷ end) e short = absurd (omega arith)
short_from (suc zero) tag end e short =
    append-nil (convert_block tag (take block_length end))
    ∙ ap (convert_block tag) (take_all block_length end (omega arith))
    ∙ stays tag end (short_neither tag end short).0
short_from (suc (suc n)) tag end e short = absurd (omega arith)

-- no block is refused as 46 at its place
none_46_from : (tag : ℕ) (blocks : List (List ℕ)) → None46 tag (convert_blocks tag blocks)
unfolding convert_blocks
none_46_from tag [] = tt
none_46_from tag (block ∷ blocks) = (never_46 tag block, none_46_from (tag_after tag) blocks)

-- one call, and so, by `any_chunks`, all calls for a deck
module _ (r : Convert) (after before : List ℕ) (c : Convert) (m : ConvertMeets r after before c) where
  abbrev first : ℕ
  first = tag_after c.tag

  -- as many bytes, and in the same blocks; each stays, or is converted and then an upload of kind 12
  pub same_size : length after ≡ length before
  same_size = ap length m.leaves ∙ as_long_as_before c.tag before

  its_blocks : blocks_of after ≡ convert_blocks first (blocks_of before)
  its_blocks = ap blocks_of m.leaves ∙ blocks_after c.tag before

  pub every_block : Each first (blocks_of before) (blocks_of after)
  every_block = subst (Each first (blocks_of before)) (sym its_blocks) (each_outcome first (blocks_of before))

  pub none_46 : None46 first (blocks_of after)
  none_46 = subst (None46 first) (sym its_blocks) (none_46_from first (blocks_of before))

  -- a short end is as it was
  pub short_end_stays : (whole end : List ℕ) → before ≡ whole ++ end → length whole % block_length ≡ 0 → length end < block_length → drop (length whole) after ≡ end
  short_end_stays whole end apart even short =
      let parts = whole_then whole end c even in
      ap (drop (length whole)) (m.leaves ∙ ap (convert_all c.tag) apart ∙ parts.0)
      ∙ drop_at (convert_all c.tag whole) (convert_all (behind_all whole c).tag end) (length whole) (as_long_as_before c.tag whole)
      ∙ short_from (begun (length end)) (tag_after (behind_all whole c).tag) end refl short

  -- the counts are how many blocks were converted and how many are left
  pub counts_converted : c.converted < 2 ^ 64 → r.converted ≡ (c.converted + how_many is_converted first (blocks_of before)) % 2 ^ 64
  counts_converted small = ap (λ (d : Convert). d.converted) m.next ∙ converted_count (blocks_of before) c small

  pub counts_left : c.left < 2 ^ 64 → r.left ≡ (c.left + how_many is_left first (blocks_of before)) % 2 ^ 64
  counts_left small = ap (λ (d : Convert). d.left) m.next ∙ left_count (blocks_of before) c small

  -- and as many whole blocks of kind 13 are in the deck afterwards as are left
  pub what_is_left : how_many (λ tag block. is_unchecked block) first (blocks_of after) ≡ how_many is_left first (blocks_of before)
  what_is_left = ap (how_many (λ tag block. is_unchecked block) first) its_blocks ∙ unchecked_are_left first (blocks_of before)

  -- a right deck is a right one again, and no block of it is left
  pub right_deck : RightFrom first (blocks_of before) → c.left < 2 ^ 64 → RightFrom first (blocks_of after) × (r.left ≡ c.left)
  right_deck right small =
      let none : c.left + how_many is_left first (blocks_of before) ≡ c.left = let z = right_none_left first (blocks_of before) right in omega arith in (
        subst (RightFrom first) (sym its_blocks) (right_again first (blocks_of before) right),
        counts_left small ∙ ap (λ (n : ℕ). n % 2 ^ 64) none ∙ mod-eq_of_lt small,
      )

  -- converting twice is converting once: the second time from the same place, nothing changes, none is converted and as many are left
  module _ (s : Convert) (again : List ℕ) (d : Convert) (place : d.tag ≡ c.tag) (second : ConvertMeets s again after d) where
    pub twice : again ≡ after
    twice =
        second.leaves ∙ ap₂ (λ (t : ℕ) (l : List ℕ). convert_all t l) place m.leaves ∙ twice_all c.tag before ∙ sym m.leaves

    second_record : s ≡ behind_blocks (convert_blocks (tag_after d.tag) (blocks_of before)) d
    second_record =
        second.next ∙ ap (λ (bs : List (List ℕ)). behind_blocks bs d) (its_blocks ∙ ap (λ (t : ℕ). convert_blocks (tag_after t) (blocks_of before)) (sym place))

    pub twice_none : s.converted ≡ d.converted
    twice_none = ap (λ (x : Convert). x.converted) second_record ∙ none_twice (blocks_of before) d

    pub twice_left : d.left ≡ c.left → s.left ≡ r.left
    twice_left same =
        ap (λ (x : Convert). x.left) second_record
        ∙ left_twice (blocks_of before) d c place same
        ∙ sym (ap (λ (x : Convert). x.left) m.next)
