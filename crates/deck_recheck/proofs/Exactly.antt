-- A block is rechecked exactly if its first check is right; its bytes before the check are then as they were, and it is right at its place.
use Rattle.std.proofs.Common.{◌≡◌, ℕ, ◌+◌, ◌%◌, ◌^◌, ◌≤◌, Bool, false, eqb, List, [], ◌∷◌, ◌++◌, length, take, drop, sym, refl, ap, ◌∙◌, subst, append_assoc, append-nil, arith, drop_of_length-le, ltb-false, le-ltb, eq-eqb, eqb-true}
use borrow.Author.Tests.{not-false}
use Rattle.promise.specs.Told.{Told, given, refused}
use Rattle.promise.specs.Rules.{pick}
use Rattle.promise.proofs.Outcome.{on_test, either_way}
use Rattle.deck_block.specs.Block.{block_length, checked_length, fields_of, first_check, with_check}
use Rattle.deck_block.specs.Place.{RightAt, RightBefore, RightFrom, RightDeckBefore, tag_after, with_checks}
use Rattle.deck_block.specs.Blocks.{is_short, blocks_of, joined}
use Rattle.deck_block.specs.Reading.{read_card, read_before}
use Rattle.deck_block.proofs.Rechecked.{as_it_was, whole_block, right_there, reads_as_before}
use Rattle.deck_block.proofs.Blocks.{blocks_append, one_block}
use Rattle.deck_recheck.specs.declared.Recheck.{Recheck}
use Rattle.deck_recheck.specs.declared.RecheckStep.{RecheckStep}
use Rattle.deck_recheck.specs.Recheck.{stop_told, Standing, standing, next_number, next_tag, behind, Written, written, first_rules, recheck_block, unless_stopped, recheck_next, then_write, recheck_blocks, recheck_all, RecheckMeets}
use Rattle.deck_recheck.proofs.Laws.{IsStopped, is_short_lem, is_bad, is_right_lem, stopped_for_good}

-- what a rechecked block is: whole, with its bytes before the check as they were, right at this tag and read there as it was read before
pub record Rechecked (tag : ℕ) (block new : List ℕ) : Type 0 where
  pub whole : length new ≡ block_length
  pub as_before : take checked_length new ≡ take checked_length block
  pub right : RightAt tag new
  pub read : read_card tag new ≡ read_before block

pub rechecked_block : (tag : ℕ) (block : List ℕ) → block_length ≤ length block → RightBefore block → Rechecked tag block (with_check tag block)
rechecked_block tag block long right =
    let enough : checked_length ≤ length block = omega arith in
    record {
      whole = whole_block tag block enough;
      as_before = as_it_was tag block enough;
      right = right_there tag block enough;
      read = reads_as_before tag block long right;
    }

-- a block behind which the deck has not stopped had its first check
abbrev HadIt : List ℕ → Written → Type 0
HadIt block w = w.leaves.told ≡ given tt → (block_length ≤ length block) × RightBefore block

had_it : (block : List ℕ) (s : Standing) (told : Told Unit) → told ≡ s.told → HadIt block (unless_stopped told s (recheck_block block s))
unfolding unless_stopped
had_it block s (refused number values) e = λ goes. let z : ◌≡◌ {A = ℕ} 0 1 = cc (e, goes) in absurd (omega arith)
had_it block s (given done) e =
    either_way (HadIt block) _ (first_rules (next_number s) block) _
    (λ number values goes. let z : ◌≡◌ {A = ℕ} 0 1 = cc goes in absurd (omega arith))
    (λ met goes. (ltb-false (length block) block_length met.0, eqb-true (fields_of block).check (first_check block) (not-false _ met.1.0)))

-- nor has it stopped before, where it has not stopped at the end
not_stopped : (blocks : List (List ℕ)) (s : Standing) (told : Told Unit) → s.told ≡ told → (recheck_blocks blocks s).leaves.told ≡ given tt → s.told ≡ given tt
not_stopped blocks s (given done) e goes = e
not_stopped blocks s (refused number values) e goes =
    ap (λ (w : Written). w.leaves.told) (sym (stopped_for_good blocks s (subst IsStopped (sym e) tt))) ∙ goes

pub only_right : (block : List ℕ) (s : Standing) → (recheck_next block s).leaves.told ≡ given tt → (block_length ≤ length block) × RightBefore block
only_right block s = had_it block s s.told refl

pub right_rechecked : (block : List ℕ) (s : Standing) → s.told ≡ given tt → block_length ≤ length block → RightBefore block
    → recheck_next block s ≡ written (with_check (next_tag s) block) (behind s (given tt))
right_rechecked block s going long right = is_right_lem block s going (le-ltb (length block) block_length long) (eq-eqb (fields_of block).check (first_check block) right)

-- a block that is short or has another check stops the deck, and nothing of it is written
pub wrong_stops : (block : List ℕ) (s : Standing) → s.told ≡ given tt → ((block_length ≤ length block) × RightBefore block → ⊥)
    → recheck_next block s ≡ written [] (behind s (refused (pick (is_short block) 44 40) (next_number s ∷ [])))
wrong_stops block s going wrong =
    on_test (is_short block) (λ short. is_short_lem block s going short ∙ ap (λ (b : Bool). written [] (behind s (refused (pick b 44 40) (next_number s ∷ [])))) (sym short))
    (λ long. on_test (eqb (fields_of block).check (first_check block))
    (λ right. absurd (wrong (ltb-false (length block) block_length long, eqb-true (fields_of block).check (first_check block) right)))
    (λ bad. is_bad block s going long bad ∙ ap (λ (b : Bool). written [] (behind s (refused (pick b 44 40) (next_number s ∷ [])))) (sym long)))

-- the deck behind blocks that were all rechecked
abbrev pub passed : List (List ℕ) → Standing → Standing
passed [] s = s
passed (block ∷ blocks) s = passed blocks (behind s (given tt))

pub passed_number : (blocks : List (List ℕ)) (s : Standing) (k : ℕ) → s.number ≡ k % 2 ^ 64 → (passed blocks s).number ≡ (k + length blocks) % 2 ^ 64
passed_number [] s k e = e ∙ ap (λ (n : ℕ). n % 2 ^ 64) (omega arith)
passed_number (block ∷ blocks) s k e =
    let next : (s.number + 1) % 2 ^ 64 ≡ (k + 1) % 2 ^ 64 = omega arith in
    passed_number blocks (behind s (given tt)) (k + 1) next ∙ ap (λ (n : ℕ). n % 2 ^ 64) (let l : k + 1 + length blocks ≡ k + length (block ∷ blocks) = omega arith in l)

pub going_on : (blocks : List (List ℕ)) (s : Standing) → s.told ≡ given tt → (passed blocks s).told ≡ given tt
going_on [] s going = going
going_on (block ∷ blocks) s going = going_on blocks (behind s (given tt)) refl

-- blocks that each had their first check, and then any
pub right_first : (blocks more : List (List ℕ)) (s : Standing) → s.told ≡ given tt → RightDeckBefore blocks
    → recheck_blocks (blocks ++ more) s ≡ then_write (written (joined (with_checks (next_tag s) blocks)) (passed blocks s)) (λ next. recheck_blocks more next)
unfolding recheck_blocks joined
right_first [] more s going right = refl
right_first (block ∷ blocks) more s going right =
    let first = with_check (next_tag s) block in
    let all = joined (with_checks (tag_after (next_tag s)) blocks) in
    let last = recheck_blocks more (passed blocks (behind s (given tt))) in
    ap (λ (w : Written). then_write w (λ next. recheck_blocks (blocks ++ more) next)) (right_rechecked block s going right.0.0 right.0.1)
    ∙ ap (λ (w : Written). written (first ++ w.bytes) w.leaves) (right_first blocks more (behind s (given tt)) refl right.1)
    ∙ ap (λ (l : List ℕ). written l last.leaves) (sym (append_assoc first all last.bytes))

-- a deck of such blocks is rechecked to its end
pub right_deck : (blocks : List (List ℕ)) (s : Standing) → s.told ≡ given tt → RightDeckBefore blocks
    → recheck_blocks blocks s ≡ written (joined (with_checks (next_tag s) blocks)) (passed blocks s)
unfolding recheck_blocks
right_deck blocks s going right =
    ap (λ (bs : List (List ℕ)). recheck_blocks bs s) (sym (append-nil blocks)) ∙ right_first blocks [] s going right
    ∙ ap (λ (l : List ℕ). written l (passed blocks s)) (append-nil (joined (with_checks (next_tag s) blocks)))

-- and one with another block is rechecked up to that
pub stops_at : (blocks : List (List ℕ)) (block : List ℕ) (more : List (List ℕ)) (s : Standing) → s.told ≡ given tt → RightDeckBefore blocks
    → ((block_length ≤ length block) × RightBefore block → ⊥)
    → recheck_blocks (blocks ++ block ∷ more) s
    ≡ written (joined (with_checks (next_tag s) blocks)) (behind (passed blocks s) (refused (pick (is_short block) 44 40) (next_number (passed blocks s) ∷ [])))
unfolding recheck_blocks
stops_at blocks block more s going right wrong =
    let end = behind (passed blocks s) (refused (pick (is_short block) 44 40) (next_number (passed blocks s) ∷ [])) in
    let text = joined (with_checks (next_tag s) blocks) in
    let rest : recheck_blocks (block ∷ more) (passed blocks s) ≡ written [] end =
    ap (λ (w : Written). then_write w (λ next. recheck_blocks more next)) (wrong_stops block (passed blocks s) (going_on blocks s going) wrong) ∙ stopped_for_good more end tt in
    right_first blocks (block ∷ more) s going right
    ∙ ap (λ (w : Written). written (text ++ w.bytes) w.leaves) rest
    ∙ ap (λ (l : List ℕ). written l end) (append-nil text)

-- so a deck that is rechecked to its end had its first checks
pub all_were_right : (blocks : List (List ℕ)) (s : Standing) → (recheck_blocks blocks s).leaves.told ≡ given tt → RightDeckBefore blocks
unfolding recheck_blocks
all_were_right [] s e = tt
all_were_right (block ∷ blocks) s e =
    let w = recheck_next block s in
    (only_right block s (not_stopped blocks w.leaves w.leaves.told refl e), all_were_right blocks w.leaves e)

-- the deck that is written is right
pub new_deck_right : (tag : ℕ) (blocks : List (List ℕ)) → RightDeckBefore blocks → RightFrom tag (with_checks tag blocks)
new_deck_right tag [] right = tt
new_deck_right tag (block ∷ blocks) right =
    let new = rechecked_block tag block right.0.0 right.0.1 in
    ((new.whole, new.right), new_deck_right (tag_after tag) blocks right.1)

-- chunk by chunk
pub recheck_append : (xs ys : List (List ℕ)) (s : Standing) → recheck_blocks (xs ++ ys) s ≡ then_write (recheck_blocks xs s) (λ next. recheck_blocks ys next)
unfolding recheck_blocks
recheck_append [] ys s = refl
recheck_append (block ∷ xs) ys s =
    let first = recheck_next block s in
    let some = recheck_blocks xs first.leaves in
    let last = recheck_blocks ys some.leaves in
    ap (λ (w : Written). written (first.bytes ++ w.bytes) w.leaves) (recheck_append xs ys first.leaves)
    ∙ ap (λ (l : List ℕ). written l last.leaves) (sym (append_assoc first.bytes some.bytes last.bytes))

pub chunk_then : (a b : List ℕ) (s : Standing) → length a % block_length ≡ 0 → recheck_all (a ++ b) s ≡ then_write (recheck_all a s) (λ next. recheck_all b next)
chunk_then a b s whole = ap (λ (bs : List (List ℕ)). recheck_blocks bs s) (blocks_append a b whole) ∙ recheck_append (blocks_of a) (blocks_of b) s

-- a call that is lent one block, by any caller whose deck has not stopped
module _ (r : RecheckStep) (after block : List ℕ) (deck : Recheck) (going : stop_told deck.stop deck.number ≡ given tt) (long : length block ≡ block_length)
    (m : RecheckMeets r after block (recheck_all block (standing deck))) where
  abbrev told : Told Unit
  told = stop_told r.recheck.stop r.recheck.number

  it_alone : recheck_all block (standing deck) ≡ recheck_next block (standing deck)
  unfolding recheck_blocks
  it_alone =
      ap (λ (bs : List (List ℕ)). recheck_blocks bs (standing deck)) (one_block block long)
      ∙ ap (λ (l : List ℕ). written l (recheck_next block (standing deck)).leaves) (append-nil (recheck_next block (standing deck)).bytes)

  comes_to : (w : Written) → recheck_next block (standing deck) ≡ w → RecheckMeets r after block w
  comes_to w e = subst (λ (v : Written). RecheckMeets r after block v) (it_alone ∙ e) m

  -- it is rechecked only if its first check is right ..
  pub rechecked_only_right : told ≡ given tt → RightBefore block
  rechecked_only_right goes =
      (only_right block (standing deck) (ap (λ (s : Standing). s.told) (sym (comes_to (recheck_next block (standing deck)) refl).next) ∙ goes)).1

  -- .. and then it is what a rechecked block is
  pub rechecked_if_right : RightBefore block → (told ≡ given tt) × ((r.bytes ≡ block_length) × Rechecked (next_tag (standing deck)) block after)
  rechecked_if_right right =
      let enough : block_length ≤ length block = omega arith in
      let came = comes_to _ (right_rechecked block (standing deck) going enough right) in
      let new = rechecked_block (next_tag (standing deck)) block enough right in
      let bytes = with_check (next_tag (standing deck)) block in
      let none : drop (length bytes) block ≡ [] = drop_of_length-le block {i = length bytes} (let w = new.whole in omega arith) in
      let all : after ≡ bytes = came.leaves ∙ ap (λ (l : List ℕ). bytes ++ l) none ∙ append-nil bytes in
      (ap (λ (s : Standing). s.told) came.next, (came.bytes ∙ new.whole, subst (Rechecked (next_tag (standing deck)) block) (sym all) new))

  -- else it is refused as 40 with its number, and as it was
  pub refused_if_wrong : (RightBefore block → ⊥) → (told ≡ refused 40 (next_number (standing deck) ∷ [])) × ((r.bytes ≡ 0) × (after ≡ block))
  refused_if_wrong wrong =
      let whole : is_short block ≡ false = le-ltb (length block) block_length (omega arith) in
      let came = comes_to _ (wrong_stops block (standing deck) going (λ both. wrong both.1)) in
      (ap (λ (s : Standing). s.told) came.next ∙ ap {B = Told Unit} (λ (b : Bool). refused (pick b 44 40) (next_number (standing deck) ∷ [])) whole, (came.bytes, came.leaves))
