-- A chunk so far, one block further, and its end.
use Rattle.std.proofs.Common.{◌≡◌, ℕ, ◌+◌, ◌-◌, ◌<◌, ◌≤◌, min, ltb, List, [], ◌∷◌, ◌++◌, length, take, drop, sym, refl, ap, ◌∙◌, subst, ap₂, append_assoc, append-nil, arith, length-drop, drop_of_length-le, length-take, take_all, drop-drop, ltb-false, ltb-true}
use borrow.Rule.Slice.PartMut.{put_mid}
use Rattle.promise.specs.Over.{over}
use Rattle.promise.proofs.Outcome.{on_test}
use Rattle.promise.proofs.Over.{length_over, drop_over, field_grows}
use Rattle.promise.proofs.Copied.{put_over}
use Rattle.deck_block.specs.Block.{block_length}
use Rattle.deck_block.specs.Place.{tag_after}
use Rattle.deck_block.specs.Blocks.{blocks_of, joined, block_at}
use Rattle.deck_block.proofs.Blocks.{blocks_next, no_blocks}
use Rattle.deck_convert.specs.declared.Convert.{Convert}
use Rattle.deck_convert.specs.Convert.{convert_blocks, convert_all, behind, behind_blocks, behind_all, ConvertMeets}
use Rattle.deck_convert.specs.Code.{BlockMeets}
use Rattle.deck_convert.proofs.OneBlock.{same_length}

-- where the block ends that starts at `from`
abbrev pub block_end : ℕ → ℕ → ℕ
block_end from n = from + min block_length (n - from)

-- `at` bytes of the chunk are converted: these, and then what is left of it, are the whole
pub record OnTheWay (chunk₀ : List ℕ) (c₀ : Convert) (chunk : List ℕ) (c : Convert) (at : ℕ) : Type 0 where
  pub inside : at ≤ length chunk₀
  pub long : length chunk ≡ length chunk₀
  pub rest : drop at chunk ≡ drop at chunk₀
  pub bytes : take at chunk ++ convert_all c.tag (drop at chunk₀) ≡ convert_all c₀.tag chunk₀
  pub next : behind_all (drop at chunk₀) c ≡ behind_all chunk₀ c₀

pub begins : (chunk : List ℕ) (c : Convert) → OnTheWay chunk c chunk c 0
begins chunk c = record { inside = omega arith; long = refl; rest = refl; bytes = refl; next = refl }

pub ends : (chunk₀ : List ℕ) (c₀ : Convert) (chunk : List ℕ) (c : Convert) (at : ℕ) → OnTheWay chunk₀ c₀ chunk c at → length chunk ≤ at
    → ConvertMeets c chunk chunk₀ c₀
unfolding convert_blocks joined behind_blocks
ends chunk₀ c₀ chunk c at way last =
    let none : blocks_of (drop at chunk₀) ≡ [] = no_blocks (drop at chunk₀) (length-drop at chunk₀ ∙ (let l = way.long in omega arith)) in
    record {
      next = ap (λ (bs : List (List ℕ)). behind_blocks bs c) (sym none) ∙ way.next;
      leaves =
          sym (append-nil chunk)
          ∙ ap₂ (λ (l : List ℕ) (bs : List (List ℕ)). l ++ joined (convert_blocks (tag_after c.tag) bs)) (sym (take_all at chunk last)) (sym none)
          ∙ way.bytes;
    }

-- the part that is lent is the block
pub lent : (at : ℕ) (chunk : List ℕ) → take (block_end at (length chunk) - at) (drop at chunk) ≡ block_at at chunk
lent at chunk =
    let rest = drop at chunk in
    on_test (ltb (length rest) block_length)
    (λ few.
    let short = ltb-true (length rest) block_length few in
    let l = length-drop at chunk in
    take_all (block_end at (length chunk) - at) rest (omega arith) ∙ sym (take_all block_length rest (omega arith)))
    (λ enough.
    let long = ltb-false (length rest) block_length enough in
    let l = length-drop at chunk in
    let whole : block_end at (length chunk) - at ≡ block_length = omega arith in
    ap (λ (n : ℕ). take n rest) whole)

-- and what is behind it is behind the block
behind_it : (at : ℕ) (chunk : List ℕ) → drop (block_end at (length chunk)) chunk ≡ drop (at + block_length) chunk
behind_it at chunk =
    on_test (ltb (length chunk - at) block_length)
    (λ few.
    let short = ltb-true (length chunk - at) block_length few in
    drop_of_length-le chunk {i = block_end at (length chunk)} (omega arith) ∙ sym (drop_of_length-le chunk {i = at + block_length} (omega arith)))
    (λ enough.
    let long = ltb-false (length chunk - at) block_length enough in
    let whole : block_end at (length chunk) ≡ at + block_length = omega arith in
    ap (λ (n : ℕ). drop n chunk) whole)

module _ (chunk₀ : List ℕ) (c₀ : Convert) (chunk : List ℕ) (c : Convert) (at : ℕ) (way : OnTheWay chunk₀ c₀ chunk c at) (more : at < length chunk)
    (end : ℕ) (to : end ≡ block_end at (length chunk)) (r : Convert) (left after : List ℕ) (m : BlockMeets r left (take (end - at) (drop at chunk)) c)
    (put : after ≡ put_mid at (end - at) chunk left) where
  abbrev block : List ℕ
  block = block_at at chunk

  met : BlockMeets r left block c
  met = subst (λ (b : List ℕ). BlockMeets r left b c) (ap (λ (n : ℕ). take (n - at) (drop at chunk)) to ∙ lent at chunk) m

  block_long : length block ≡ min block_length (length chunk - at)
  block_long = length-take block_length (drop at chunk) ∙ ap (min block_length) (length-drop at chunk)

  left_long : length left ≡ end - at
  left_long =
      let l = block_long in
      let same = ap length met.leaves ∙ same_length (tag_after c.tag) block (omega arith) in
      same ∙ l ∙ (omega (arith, to))

  there : end ≡ at + length left
  there = let l = left_long in omega (arith, to)

  inside_too : at + length left ≤ length chunk
  inside_too = let l = left_long in omega (arith, to)

  put_there : after ≡ over at left chunk
  put_there = put ∙ put_over at (end - at) chunk left left_long

  pub after_long : length after ≡ length chunk₀
  after_long = ap length put_there ∙ length_over at left chunk inside_too ∙ way.long

  after_rest : drop end after ≡ drop end chunk₀
  after_rest =
      ap₂ (λ (k : ℕ) (l : List ℕ). drop k l) there put_there
      ∙ drop_over at left chunk inside_too
      ∙ sym (drop-drop (length left) at chunk)
      ∙ ap (drop (length left)) way.rest
      ∙ drop-drop (length left) at chunk₀
      ∙ ap (λ (k : ℕ). drop k chunk₀) (sym there)

  so_far : take end after ≡ take at chunk ++ left
  so_far =
      let from-0 : 0 + at ≡ at = omega arith in
      let fits : 0 + at + length left ≤ length chunk = let i = inside_too in omega arith in
      ap₂ (λ (k : ℕ) (l : List ℕ). take k l) there put_there
      ∙ sym (ap (λ (k : ℕ). take (at + length left) (over k left chunk)) from-0)
      ∙ field_grows 0 at left chunk fits

  -- what was left began with the block
  blocks : blocks_of (drop at chunk₀) ≡ block ∷ blocks_of (drop end chunk₀)
  blocks =
      let behind-end : drop end chunk₀ ≡ drop (at + block_length) chunk₀ =
      ap (λ (k : ℕ). drop k chunk₀) (to ∙ ap (block_end at) way.long) ∙ behind_it at chunk₀ in
      blocks_next at chunk₀ (let l = way.long in omega arith)
      ∙ ap₂ (λ (b l : List ℕ). b ∷ blocks_of l) (ap (take block_length) (sym way.rest)) (sym behind-end)

  its_tag : r.tag ≡ tag_after c.tag
  unfolding behind
  its_tag = ap (λ (d : Convert). d.tag) met.next

  pub goes_on : OnTheWay chunk₀ c₀ after r end
  unfolding convert_blocks joined behind_blocks
  goes_on =
      let rest = blocks_of (drop end chunk₀) in
      record {
        inside = let i = inside_too in let l = way.long in omega (arith, there);
        long = after_long;
        rest = after_rest;
        bytes =
            ap (λ (l : List ℕ). l ++ convert_all r.tag (drop end chunk₀)) so_far
            ∙ append_assoc (take at chunk) left (convert_all r.tag (drop end chunk₀))
            ∙ ap₂ (λ (l : List ℕ) (t : ℕ). take at chunk ++ (l ++ joined (convert_blocks (tag_after t) rest))) met.leaves its_tag
            ∙ ap (λ (bs : List (List ℕ)). take at chunk ++ joined (convert_blocks (tag_after c.tag) bs)) (sym blocks)
            ∙ way.bytes;
        next =
            ap (behind_blocks rest) met.next
            ∙ ap (λ (bs : List (List ℕ)). behind_blocks bs c) (sym blocks)
            ∙ way.next;
      }
