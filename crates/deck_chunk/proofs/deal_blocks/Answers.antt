-- What is done and what is left make the whole; each turn takes the next block of the chunk.
use Rattle.std.proofs.Common.{◌≡◌, ℕ, ◌+◌, ◌*◌, ◌<◌, List, ◌++◌, length, min, take, drop, refl, ap, ap₂, sym, subst, ◌∙◌, arith, [], ◌∷◌, length-append, length-drop, drop-drop}
use lib.Seq.{take-append_seam, drop-append_seam}
use Rattle.std.proofs.lemmas.List.{take_min, drop_min}
use Rattle.std.specs.Slice.Iter.{chunks_rest}
use Rattle.deck_block.specs.Blocks.{begun, block_at}
use Rattle.deck_chunk.proofs.Laws.{begins, goes_on, ends_there}
use Rattle.deck_chunk.specs.Deck.{table, deal_next}
use Rattle.deck_chunk.specs.Code.{NextMeets}
use Rattle.deck_chunk.proofs.deal_blocks.Goals as goal
use Rattle.deck_chunk.proofs.deal_blocks.Goals.{In-Some}

-- what comes off the front of what is left is the next block
module _ (k : ℕ) (chunk rest block left : List ℕ) (here : rest ≡ drop (k * 512) chunk) (parts : rest ≡ block ++ left)
    (size : length block ≡ min 512 (length rest)) (some : 0 < length rest) where
  inside : k < begun (length chunk)
  inside = let n = ap length here ∙ length-drop (k * 512) chunk in omega arith

  is_block : block ≡ block_at (k * 512) chunk
  is_block =
      sym (take-append_seam block left) ∙ ap₂ (λ (n : ℕ) (l : List ℕ). take n l) size (sym parts)
      ∙ take_min 512 rest ∙ ap (take 512) here

  is_left : left ≡ drop ((k + 1) * 512) chunk
  is_left =
      let place : k * 512 + 512 ≡ (k + 1) * 512 = omega arith in
      sym (drop-append_seam block left) ∙ ap₂ (λ (n : ℕ) (l : List ℕ). drop n l) size (sym parts)
      ∙ drop_min 512 rest ∙ ap (drop 512) here ∙ drop-drop 512 (k * 512) chunk ∙ ap (λ (n : ℕ). drop n chunk) place

pub loop-block-init : goal.loop-block-init
loop-block-init c =
    let a = c.args in
    let chunks = c.chunks-block-items.ensures in
    let same = c.into_iter-block-iterator.ensures.into_iter_gives in (
      rw same chunks.size,
      rw same chunks.rest,
      begins (begun (length a.blocks.now)) a.blocks.now a.lines.now a.flash.now a.store.now (record { deck = a.deck; blocks = 0; bytes = 0 }) refl refl (omega (arith, c.requires)),
    )

-- the next block, where the loop goes on
module _ (c : In-Some) where
  its_size : length c.in-Some.block.now ≡ min 512 (length (chunks_rest c.loop-block.block-iterator))
  its_size = c.in-Some.ensures.steps.1.1 ∙ ap (λ (n : ℕ). min n (length (chunks_rest c.loop-block.block-iterator))) c.loop-block.invariant.0

  more : length c.loop-block.yielded < begun (length c.args.blocks.now)
  more =
      let l = c.loop-block in
      let s = c.in-Some.ensures.steps.1 in
      inside (length l.yielded) c.args.blocks.now (chunks_rest l.block-iterator) c.in-Some.block.now (chunks_rest c.next.new.self) l.invariant.1 s.0 its_size s.2

pub deal_next-progress-requires : goal.deal_next-progress-requires
deal_next-progress-requires c =
    let way = c.loop-block.invariant.2 in
    let on = more (goal.at.deal_next-progress-requires c).In-Some in
    (omega (arith, on, way.room), omega (arith, on, way.few))

pub loop-block-preserved : goal.loop-block-preserved
loop-block-preserved c =
    let l = c.loop-block in
    let a = c.args in
    let p = (goal.at.loop-block-preserved c).In-Some in
    let s = c.in-Some.ensures.steps in
    let k = length l.yielded in
    let dealt = c.deal_next-progress in
    let n = begun (length a.blocks.now) in
    let blocks = a.blocks.now in
    let here = is_block k blocks (chunks_rest l.block-iterator) c.in-Some.block.now (chunks_rest c.next.new.self) l.invariant.1 s.1.0 (its_size p) s.1.2 in
    let met =
    subst (λ (b : List ℕ). NextMeets dealt.result dealt.new.lines dealt.new.flash dealt.new.store l.progress l.lines (deal_next b (table l.progress.deck l.flash l.store))) here dealt.ensures in
    let grown : length (l.yielded ++ (c.in-Some.block ∷ [])) ≡ k + 1 = length-append l.yielded (c.in-Some.block ∷ []) in
    rw grown (
      s.0 ∙ l.invariant.0,
      is_left k blocks (chunks_rest l.block-iterator) c.in-Some.block.now (chunks_rest c.next.new.self) l.invariant.1 s.1.0 (its_size p) s.1.2,
      goes_on n k blocks a.lines.now a.flash.now a.store.now a.deck l.progress l.lines l.flash l.store l.invariant.2 dealt.result _ _ _ (more p) met dealt.auto.flash dealt.auto.store,
    )

pub returns : goal.returns
returns c =
    let l = c.loop-block in
    let a = c.args in
    let blocks = a.blocks.now in
    let none = c.in-None.ensures.steps.1.0 in
    let left = ap length l.invariant.1 ∙ length-drop (length l.yielded * 512) blocks in
    ends_there (begun (length blocks)) (length l.yielded) blocks a.lines.now a.flash.now a.store.now a.deck l.progress l.lines l.flash l.store l.invariant.2
    (omega (arith, none, left))
