-- A whole input: every block by itself, the lengths, the counts, and twice.
use Rattle.std.proofs.Common.{◌≡◌, ℕ, zero, suc, ◌+◌, ◌%◌, ◌^◌, ◌<◌, ◌≤◌, Bool, true, false, not, List, [], ◌∷◌, length, take, drop, sym, refl, ap, ◌∙◌, subst, ap₂, append-nil, mod-eq_of_lt, arith, length-append, length-drop, length-take, take_all, take_at, drop_at, eq-eqb}
use Rattle.promise.specs.Rules.{pick}
use Rattle.promise.proofs.Outcome.{by_test, on_test}
use Rattle.deck_block.specs.Block.{block_length, fields_of, block_check}
use Rattle.deck_block.specs.Place.{RightAt, RightFrom, tag_after}
use Rattle.deck_block.specs.Blocks.{begun, cut, blocks_of, joined}
use Rattle.deck_convert.specs.declared.Convert.{Convert}
use Rattle.deck_convert.specs.Convert.{is_unchecked, is_converted, is_left, convert_block, convert_blocks, convert_all, counted, behind, behind_blocks}
use Rattle.deck_convert.specs.Converted.{Each, how_many}
use Rattle.deck_convert.proofs.OneBlock.{same_length}
use Rattle.deck_convert.proofs.Converted.{stays, outcome, none_again, left_again, unchecked_left, twice_block}

-- the first of an input's blocks
first_long : (tag : ℕ) (input : List ℕ) → length (convert_block tag (take block_length input)) ≡ length (take block_length input)
first_long tag input = same_length tag (take block_length input) (let l = length-take block_length input in omega arith)

-- an input is as long as it was
long_from : (n tag : ℕ) (input : List ℕ) → n ≡ begun (length input) → length (joined (convert_blocks tag (cut n input))) ≡ length input
unfolding cut convert_blocks joined
long_from zero tag input e = omega arith
long_from (suc n) tag input e =
    let rest : n ≡ begun (length (drop block_length input)) = simp length-drop (omega arith) in
    length-append (convert_block tag (take block_length input)) (joined (convert_blocks (tag_after tag) (cut n (drop block_length input))))
    ∙ ap₂ (λ (a b : ℕ). a + b) (first_long tag input ∙ length-take block_length input) (long_from n (tag_after tag) (drop block_length input) rest ∙ length-drop block_length input)
    ∙ (omega arith)

pub as_long_as_before : (last : ℕ) (input : List ℕ) → length (convert_all last input) ≡ length input
as_long_as_before last input = long_from (begun (length input)) (tag_after last) input refl

-- its blocks are the converted ones
cut_back : (n tag : ℕ) (input : List ℕ) → n ≡ begun (length input) → cut n (joined (convert_blocks tag (cut n input))) ≡ convert_blocks tag (cut n input)
unfolding cut convert_blocks joined
cut_back zero tag input e = refl
cut_back (suc zero) tag input e =
    let new = convert_block tag (take block_length input) in
    let few : length new ≤ block_length = let l = first_long tag input in let m = length-take block_length input in omega arith in
    ap (λ (l : List ℕ). take block_length l ∷ []) (append-nil new) ∙ ap (λ (l : List ℕ). l ∷ []) (take_all block_length new few)
cut_back (suc (suc n)) tag input e =
    let new = convert_block tag (take block_length input) in
    let rest = joined (convert_blocks (tag_after tag) (cut (suc n) (drop block_length input))) in
    let whole : length new ≡ block_length = first_long tag input ∙ length-take block_length input ∙ (omega arith) in
    let left : suc n ≡ begun (length (drop block_length input)) = simp length-drop (omega arith) in
    ap₂ (λ (a b : List ℕ). a ∷ cut (suc n) b) (take_at new rest block_length whole) (drop_at new rest block_length whole)
    ∙ ap (λ (bs : List (List ℕ)). new ∷ bs) (cut_back (suc n) (tag_after tag) (drop block_length input) left)

pub blocks_after : (last : ℕ) (input : List ℕ) → blocks_of (convert_all last input) ≡ convert_blocks (tag_after last) (blocks_of input)
blocks_after last input =
    ap (λ (n : ℕ). cut (begun n) (convert_all last input)) (as_long_as_before last input) ∙ cut_back (begun (length input)) (tag_after last) input refl

-- every block by itself
pub each_outcome : (tag : ℕ) (blocks : List (List ℕ)) → Each tag blocks (convert_blocks tag blocks)
unfolding convert_blocks
each_outcome tag [] = tt
each_outcome tag (block ∷ blocks) = (outcome tag block, each_outcome (tag_after tag) blocks)

-- blocks converted again
twice_blocks : (tag : ℕ) (blocks : List (List ℕ)) → convert_blocks tag (convert_blocks tag blocks) ≡ convert_blocks tag blocks
unfolding convert_blocks
twice_blocks tag [] = refl
twice_blocks tag (block ∷ blocks) = ap₂ (λ (b : List ℕ) (bs : List (List ℕ)). b ∷ bs) (twice_block tag block) (twice_blocks (tag_after tag) blocks)

pub twice_all : (last : ℕ) (input : List ℕ) → convert_all last (convert_all last input) ≡ convert_all last input
twice_all last input = ap joined (ap (convert_blocks (tag_after last)) (blocks_after last input) ∙ twice_blocks (tag_after last) (blocks_of input))

-- how many were converted and left
one_counted : (more : Bool) (n : ℕ) → n < 2 ^ 64 → counted more n < 2 ^ 64
one_counted true n small = omega arith
one_counted false n small = small

counts_on : (more : Bool) (n k : ℕ) → (counted more n + k) % 2 ^ 64 ≡ (n + (pick more 1 0 + k)) % 2 ^ 64
counts_on true n k = omega arith
counts_on false n k = omega arith

-- either count: how many of the blocks pass its test
module _ (count : Convert → ℕ) (test : ℕ → List ℕ → Bool) (counts : (block : List ℕ) (c : Convert) → count (behind block c) ≡ counted (test (tag_after c.tag) block) (count c)) where
  count_through : (blocks : List (List ℕ)) (c : Convert) → count c < 2 ^ 64
      → count (behind_blocks blocks c) ≡ (count c + how_many test (tag_after c.tag) blocks) % 2 ^ 64
  unfolding behind_blocks behind
  count_through [] c small = sym (ap (λ (n : ℕ). n % 2 ^ 64) (let z : count c + 0 ≡ count c = omega arith in z) ∙ mod-eq_of_lt small)
  count_through (block ∷ blocks) c small =
      let tag = tag_after c.tag in
      let is = test tag block in
      let more = how_many test (tag_after tag) blocks in
      count_through blocks (behind block c) (subst (λ (n : ℕ). n < 2 ^ 64) (sym (counts block c)) (one_counted is (count c) small))
      ∙ ap (λ (n : ℕ). (n + more) % 2 ^ 64) (counts block c)
      ∙ counts_on is (count c) more

pub converted_count : (blocks : List (List ℕ)) (c : Convert) → c.converted < 2 ^ 64
    → (behind_blocks blocks c).converted ≡ (c.converted + how_many is_converted (tag_after c.tag) blocks) % 2 ^ 64
unfolding behind
converted_count = count_through (λ (c : Convert). c.converted) is_converted (λ block c. refl)

pub left_count : (blocks : List (List ℕ)) (c : Convert) → c.left < 2 ^ 64
    → (behind_blocks blocks c).left ≡ (c.left + how_many is_left (tag_after c.tag) blocks) % 2 ^ 64
unfolding behind
left_count = count_through (λ (c : Convert). c.left) is_left (λ block c. refl)

-- of converted blocks none is converted again, and as many are left
pub none_twice : (blocks : List (List ℕ)) (c : Convert) → (behind_blocks (convert_blocks (tag_after c.tag) blocks) c).converted ≡ c.converted
unfolding convert_blocks behind_blocks behind
none_twice [] c = refl
none_twice (block ∷ blocks) c =
    let new = convert_block (tag_after c.tag) block in
    none_twice blocks (behind new c) ∙ ap (λ (b : Bool). counted b c.converted) (none_again (tag_after c.tag) block)

pub left_twice : (blocks : List (List ℕ)) (d c : Convert) → d.tag ≡ c.tag → d.left ≡ c.left
    → (behind_blocks (convert_blocks (tag_after d.tag) blocks) d).left ≡ (behind_blocks blocks c).left
unfolding convert_blocks behind_blocks behind
left_twice [] d c place same = same
left_twice (block ∷ blocks) d c place same =
    let tag = tag_after d.tag in
    left_twice blocks (behind (convert_block tag block) d) (behind block c) (ap tag_after place)
    (ap (λ (b : Bool). counted b d.left) (left_again tag block) ∙ ap₂ (λ (t n : ℕ). counted (is_left (tag_after t) block) n) place same)

-- of kind 13 are then those that are left, and no others
pub unchecked_are_left : (tag : ℕ) (blocks : List (List ℕ)) → how_many (λ t block. is_unchecked block) tag (convert_blocks tag blocks) ≡ how_many is_left tag blocks
unfolding convert_blocks
unchecked_are_left tag [] = refl
unchecked_are_left tag (block ∷ blocks) = ap₂ (λ (b : Bool) (n : ℕ). pick b 1 0 + n) (unchecked_left tag block) (unchecked_are_left (tag_after tag) blocks)

-- a block that is right is not left
not_left : (tag : ℕ) (block : List ℕ) → RightAt tag block → is_left tag block ≡ false
not_left tag block right =
    by_test (λ (u : Bool). u ≡ false) (is_unchecked block) (λ e. ap not (eq-eqb (fields_of block).check (block_check tag block) right)) (λ e. refl)

-- a right deck has none left, and is a right deck again
pub right_none_left : (tag : ℕ) (blocks : List (List ℕ)) → RightFrom tag blocks → how_many is_left tag blocks ≡ 0
right_none_left tag [] right = refl
right_none_left tag (block ∷ blocks) right =
    let rest = right_none_left (tag_after tag) blocks right.1 in
    let none : is_left tag block ≡ false = not_left tag block right.0.1 in
    ap₂ (λ (b : Bool) (n : ℕ). pick b 1 0 + n) none rest

pub right_again : (tag : ℕ) (blocks : List (List ℕ)) → RightFrom tag blocks → RightFrom tag (convert_blocks tag blocks)
unfolding convert_blocks
right_again tag [] right = tt
right_again tag (block ∷ blocks) right =
    let whole = right.0.0 in
    let new : (length (convert_block tag block) ≡ block_length) × RightAt tag (convert_block tag block) =
    on_test (is_converted tag block)
    (λ e. let up = (outcome tag block).converts e in (up.whole, up.right))
    (λ e. subst (λ (b : List ℕ). (length b ≡ block_length) × RightAt tag b) (sym (stays tag block e)) right.0) in
    (new, right_again (tag_after tag) blocks right.1)
