-- A block of a right deck that stands at another place is told as 40 there, up to block 65,535: so the first line that is out of place is, when two
-- blocks are exchanged, one is dropped that was not the last or one is repeated. So is a block of a deck made before, but at 39,360.
use Prim.Native.Nat.{ℕ, ◌+◌, ◌%◌, ◌^◌, ◌≤◌, ◌<◌}
use mathlib.Core.Path.{◌≡◌, refl, ap, ap₂, sym, subst, ◌∙◌}
use mathlib.Core.Bool.{false}
use mathlib.Core.List.{List, [], ◌∷◌, ◌++◌, append_assoc}
use native.Mathlib.Omega.{arith}
use native.Mathlib.Nat.{mod-eq_of_lt}
use borrow.Author.Tests.{le-ltb}
use lib.ListN.{length, length-append}
use Rattle.promise.specs.Told.{Told, refused}
use Rattle.deck_block.specs.declared.Request.{Request}
use Rattle.deck_block.specs.Block.{block_length}
use Rattle.deck_block.specs.Place.{RightAt, RightBefore, RightFrom}
use Rattle.deck_block.specs.Blocks.{joined, Whole, WholeButLast}
use Rattle.deck_block.specs.Reading.{read_card}
use Rattle.deck_block.proofs.Place.{refused_elsewhere, coinciding, before_refused, right_whole, right_at_place}
use Rattle.deck_block.proofs.Blocks.{blocks_back, whole_append, whole_apart}
use Rattle.deck.specs.Deal.{Head}
use Rattle.deck.specs.Dealing.{deal_asked, deal_block}
use Rattle.deck.specs.declared.bench.BenchStart.{BenchStart}
use Rattle.deck.specs.Bench.{next_tag, next_number, StartMeets}
use Rattle.deck_line.specs.Line.{line_text}
use Rattle.deck_chunk.specs.Deck.{Table, table, Lines, new_deck, deal_of, deal_next, deal_blocks, deck_start, deck_lines}
use Rattle.deck_chunk.proofs.Cuts.{deal_append}
use Rattle.theorems.specs.Deck.{Counts, head_of}
use Rattle.theorems.specs.Chunks.{Deals}
use Rattle.theorems.proofs.AnyChunks.{whole_deck}

-- k blocks were dealt, and none of them was short
pub record Standing (k : ℕ) (t : Table) : Type 0 where
  pub goes_on : t.deck.is_over ≡ false
  pub counts : Counts k t.deck.bench

-- a block's line
its_line : (block : List ℕ) (t : Table) → t.deck.is_over ≡ false → (deal_next block t).text ≡ line_text (next_number t.deck.bench) (deal_of t block).told
unfolding deal_next
its_line block t on = rw on refl

stands_next : (k : ℕ) (block : List ℕ) (t : Table) → Standing k t → length block ≡ block_length → Standing (k + 1) (deal_next block t).leaves
unfolding deal_next
stands_next k block t s long = rw s.goes_on (record {
  goes_on = le-ltb (length block) block_length (omega arith);
  counts = record {
    number = let e = s.counts.number in omega arith;
    tag = let e = s.counts.tag in omega arith;
  };
})

stands_behind : (k : ℕ) (blocks : List (List ℕ)) (t : Table) → Standing k t → Whole blocks → Standing (k + length blocks) (deal_blocks blocks t).leaves
unfolding deal_blocks
stands_behind k [] t s whole = subst (λ (n : ℕ). Standing n t) (let z : k ≡ k + 0 = omega arith in z) s
stands_behind k (block ∷ blocks) t s whole =
    subst (λ (n : ℕ). Standing n (deal_blocks blocks (deal_next block t).leaves).leaves) (let z : k + 1 + length blocks ≡ k + length (block ∷ blocks) = omega arith in z)
    (stands_behind (k + 1) blocks (deal_next block t).leaves (stands_next k block t s whole.0) whole.1)

-- the counters, where they have not wrapped
by_count : (tag k : ℕ) → tag ≡ (0 + k) % 2 ^ 32 → k < 65535 → (tag + 1) % 2 ^ 32 ≡ k + 1
by_count tag k e small =
    let here : (0 + k) % 2 ^ 32 ≡ k = (let z : 0 + k ≡ k = omega arith in ap (λ (n : ℕ). n % 2 ^ 32) z) ∙ mod-eq_of_lt (omega arith) in
    ap (λ (n : ℕ). (n + 1) % 2 ^ 32) (e ∙ here) ∙ mod-eq_of_lt (omega arith)

by_number : (number k : ℕ) → number ≡ (0 + k) % 2 ^ 64 → k < 65535 → (number + 1) % 2 ^ 64 ≡ k + 1
by_number number k e small =
    let here : (0 + k) % 2 ^ 64 ≡ k = (let z : 0 + k ≡ k = omega arith in ap (λ (n : ℕ). n % 2 ^ 64) z) ∙ mod-eq_of_lt (omega arith) in
    ap (λ (n : ℕ). (n + 1) % 2 ^ 64) (e ∙ here) ∙ mod-eq_of_lt (omega arith)

-- what is told of a block that is refused as 40
told_away : (tag : ℕ) (told : Told Request) (h : Head) → told ≡ refused 40 [] → (deal_asked tag told h).told ≡ refused 40 []
unfolding deal_asked
told_away tag told h e = ap (λ (t : Told Request). (deal_asked tag t h).told) e

told_40 : (t : Table) (block : List ℕ) → read_card (next_tag t.deck.bench) block ≡ refused 40 [] → (deal_of t block).told ≡ refused 40 []
unfolding deal_block
told_40 t block read = told_away (next_tag t.deck.bench) (read_card (next_tag t.deck.bench) block) (head_of t) read

-- the lines of a deck: those of its first blocks, and then 40 for the next, which is refused so at its place
line_40 : (before : List (List ℕ)) (block : List ℕ) (more : List (List ℕ)) (t : Table) → Standing 0 t → Whole before → length before + 1 ≤ 65535
    → read_card (length before + 1) block ≡ refused 40 []
    → (rest : List ℕ) × ((deal_blocks (before ++ block ∷ more) t).text ≡ (deal_blocks before t).text ++ (line_text (length before + 1) (refused 40 []) ++ rest))
unfolding deal_blocks
line_40 before block more t s whole within refuses =
    let there = (deal_blocks before t).leaves in
    let on = stands_behind 0 before t s whole in
    let tag : next_tag there.deck.bench ≡ length before + 1 = let e = on.counts.tag in by_count there.deck.bench.tag (length before) e (omega arith) in
    let number : next_number there.deck.bench ≡ length before + 1 = let e = on.counts.number in by_number there.deck.bench.number (length before) e (omega arith) in
    let read : read_card (next_tag there.deck.bench) block ≡ refused 40 [] = ap (λ (k : ℕ). read_card k block) tag ∙ refuses in
    let line : (deal_next block there).text ≡ line_text (length before + 1) (refused 40 []) =
    its_line block there on.goes_on ∙ ap₂ line_text number (told_40 there block read) in
    let rest = (deal_blocks more (deal_next block there).leaves).text in (
      rest,
      ap (λ (l : Lines). l.text) (deal_append before (block ∷ more) t)
          ∙ ap (λ (l : List ℕ). (deal_blocks before t).text ++ (l ++ rest)) line,
    )

-- from a fresh start, with all bytes of the deck as its input
fresh_stands : (store : List ℕ) → Standing 0 (deck_start store)
fresh_stands store = record { goes_on = refl; counts = record { number = refl; tag = refl } }

abbrev pub Told40 : List (List ℕ) → List (List ℕ) → List ℕ → Type 0
Told40 before deck store = (rest : List ℕ) × (deck_lines store (joined deck) ≡ deck_lines store (joined before) ++ (line_text (length before + 1) (refused 40 []) ++ rest))

lines_40 : (before : List (List ℕ)) (block : List ℕ) (more : List (List ℕ)) (store : List ℕ) → Whole before → Whole (block ∷ more)
    → length before + 1 ≤ 65535 → read_card (length before + 1) block ≡ refused 40 [] → Told40 before (before ++ block ∷ more) store
lines_40 before block more store whole behind within refuses =
    let t = deck_start store in
    let out = line_40 before block more t (fresh_stands store) whole within refuses in
    let lines_of : (bs : List (List ℕ)) → Whole bs → deck_lines store (joined bs) ≡ (deal_blocks bs t).text = λ bs w. ap (λ (l : List (List ℕ)). (deal_blocks l t).text) (blocks_back bs w) in (
      out.0,
      lines_of (before ++ block ∷ more) (whole_append before (block ∷ more) whole behind)
          ∙ out.1
          ∙ ap (λ (l : List ℕ). l ++ (line_text (length before + 1) (refused 40 []) ++ out.0)) (sym (lines_of before whole)),
    )

-- a block that is right at place i and stands at another, whatever the whole blocks around it are
pub out_of_place : (before : List (List ℕ)) (block : List ℕ) (more : List (List ℕ)) (store : List ℕ) (i : ℕ) → Whole before → Whole (block ∷ more)
    → RightAt i block → i ≤ 65535 → length before + 1 ≤ 65535 → (i ≡ length before + 1 → ⊥) → Told40 before (before ++ block ∷ more) store
out_of_place before block more store i whole behind right small within other =
    lines_40 before block more store whole behind within
    (refused_elsewhere i (length before + 1) block small within other (let long = behind.0 in omega arith) right)

-- a block of a deck made before that is dealt as it is, among whole blocks, at any place but the one where its check is the same
pub before_told : (before : List (List ℕ)) (block : List ℕ) (more : List (List ℕ)) (store : List ℕ) → Whole before → Whole (block ∷ more)
    → RightBefore block → length before + 1 ≤ 65535 → (length before + 1 ≡ coinciding → ⊥) → Told40 before (before ++ block ∷ more) store
before_told before block more store whole behind right within other =
    lines_40 before block more store whole behind within
    (before_refused (length before + 1) block within other (let long = behind.0 in omega arith) right)

-- and so for any caller who deals the deck from a fresh start, in whatever chunks
pub told_to_any_caller : (before deck : List (List ℕ)) (store : List ℕ) → Told40 before deck store
    → (r : BenchStart) (after flash : List ℕ) (chunks : List (List ℕ)) (text : List ℕ) (end : Table) → length flash ≡ 65536
    → StartMeets r after flash (length store) → WholeButLast chunks → Deals (table (new_deck r.bench) after store) chunks text end → joined chunks ≡ joined deck
    → (rest : List ℕ) × (text ≡ deck_lines store (joined before) ++ (line_text (length before + 1) (refused 40 []) ++ rest))
told_to_any_caller before deck store told r after flash chunks text end long m whole deals same =
    (told.0, (whole_deck r after flash store chunks text end long m whole deals).0 ∙ ap (deck_lines store) same ∙ told.1)

-- two blocks of a right deck exchanged: the first of them, and the second as well
module _ (first : List (List ℕ)) (a : List ℕ) (between : List (List ℕ)) (b : List ℕ) (last : List (List ℕ)) (store : List ℕ)
    (right : RightFrom 1 (first ++ a ∷ (between ++ b ∷ last))) (small : length first + length between + 2 ≤ 65535) where
  whole : Whole first × Whole (a ∷ (between ++ b ∷ last))
  whole = whole_apart first (a ∷ (between ++ b ∷ last)) (right_whole 1 (first ++ a ∷ (between ++ b ∷ last)) right)

  behind : Whole between × Whole (b ∷ last)
  behind = whole_apart between (b ∷ last) whole.1.1

  pub exchanged : Told40 first (first ++ b ∷ (between ++ a ∷ last)) store
  exchanged =
      let e : (first ++ a ∷ between) ++ b ∷ last ≡ first ++ a ∷ (between ++ b ∷ last) = append_assoc first (a ∷ between) (b ∷ last) in
      let before : length (first ++ a ∷ between) ≡ length first + (1 + length between) = simp length-append (omega arith) in
      let there = right_at_place 1 (first ++ a ∷ between) b last (subst (RightFrom 1) (sym e) right) (omega arith) in
      out_of_place first b (between ++ a ∷ last) store (1 + length (first ++ a ∷ between)) whole.0
      (behind.1.0, whole_append between (a ∷ last) behind.0 (whole.1.0, behind.1.1)) there (omega arith) (omega arith) (λ same. omega arith)

  pub exchanged_too : Told40 (first ++ b ∷ between) (first ++ b ∷ (between ++ a ∷ last)) store
  exchanged_too =
      let e : (first ++ b ∷ between) ++ a ∷ last ≡ first ++ b ∷ (between ++ a ∷ last) = append_assoc first (b ∷ between) (a ∷ last) in
      let before : length (first ++ b ∷ between) ≡ length first + (1 + length between) = simp length-append (omega arith) in
      let here = right_at_place 1 first a (between ++ b ∷ last) right (omega arith) in
      subst (λ (deck : List (List ℕ)). Told40 (first ++ b ∷ between) deck store) e
      (out_of_place (first ++ b ∷ between) a last store (1 + length first) (whole_append first (b ∷ between) whole.0 (behind.1.0, behind.0))
      (whole.1.0, behind.1.1) here (omega arith) (omega arith) (λ same. omega arith))

-- one dropped that was not the last
pub dropped : (first : List (List ℕ)) (a b : List ℕ) (last : List (List ℕ)) (store : List ℕ)
    → RightFrom 1 (first ++ a ∷ b ∷ last) → length first + 2 ≤ 65535 → Told40 first (first ++ b ∷ last) store
dropped first a b last store right small =
    let e : (first ++ a ∷ []) ++ b ∷ last ≡ first ++ a ∷ b ∷ last = append_assoc first (a ∷ []) (b ∷ last) in
    let whole = whole_apart first (a ∷ b ∷ last) (right_whole 1 (first ++ a ∷ b ∷ last) right) in
    let before : length (first ++ a ∷ []) ≡ length first + 1 = simp length-append (omega arith) in
    let there = right_at_place 1 (first ++ a ∷ []) b last (subst (RightFrom 1) (sym e) right) (omega arith) in
    out_of_place first b last store (1 + length (first ++ a ∷ [])) whole.0 whole.1.1 there (omega arith) (omega arith) (λ same. omega arith)

-- one repeated, at any place behind itself
pub repeated : (first : List (List ℕ)) (a : List ℕ) (between last : List (List ℕ)) (store : List ℕ)
    → RightFrom 1 (first ++ a ∷ (between ++ last)) → length first + length between + 2 ≤ 65535
    → Told40 (first ++ a ∷ between) (first ++ a ∷ (between ++ a ∷ last)) store
repeated first a between last store right small =
    let e : (first ++ a ∷ between) ++ a ∷ last ≡ first ++ a ∷ (between ++ a ∷ last) = append_assoc first (a ∷ between) (a ∷ last) in
    let whole = whole_apart first (a ∷ (between ++ last)) (right_whole 1 (first ++ a ∷ (between ++ last)) right) in
    let behind = whole_apart between last whole.1.1 in
    let before : length (first ++ a ∷ between) ≡ length first + (1 + length between) = simp length-append (omega arith) in
    let here = right_at_place 1 first a (between ++ last) right (omega arith) in
    subst (λ (deck : List (List ℕ)). Told40 (first ++ a ∷ between) deck store) e
    (out_of_place (first ++ a ∷ between) a last store (1 + length first) (whole_append first (a ∷ between) whole.0 (whole.1.0, behind.0))
    (whole.1.0, behind.1) here (omega arith) (omega arith) (λ same. omega arith))
