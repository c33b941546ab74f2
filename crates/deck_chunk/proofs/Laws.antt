-- One block more of a chunk, the chunk so far, and its end.
use Prim.Native.Nat.{ℕ, suc, ◌+◌, ◌-◌, ◌*◌, ◌≤◌, ◌<◌}
use mathlib.Core.Path.{◌≡◌, refl, ap, ap₂, sym, subst, ◌∙◌}
use mathlib.Core.Bool.{Bool, true, false}
use mathlib.Core.List.{List, [], ◌∷◌, ◌++◌, append_assoc, append-nil}
use native.Mathlib.Omega.{arith}
use lib.Dec.{ltb}
use lib.ListN.{length, take, drop, replicate, length-append, length-replicate, take-append-drop}
use lib.Seq.{take-append_seam, drop-drop, length-take-le}
use Rattle.promise.specs.Rules.{or_refuse}
use Rattle.promise.specs.Bytes.{front}
use Rattle.promise.specs.Over.{over}
use Rattle.promise.proofs.Over.{over_nothing, length_over, drop_over, field_grows}
use Rattle.deck.specs.declared.bench.Bench.{Bench}
use Rattle.deck.specs.Deal.{Head}
use Rattle.deck.specs.Bench.{next_tag, next_number, bench_at, next_deal}
use Rattle.deck_line.specs.declared.Line.{Line}
use Rattle.deck_line.specs.Line.{line_text, line, longest_line}
use Rattle.deck_block.specs.Block.{block_length}
use Rattle.deck_block.specs.Blocks.{is_short, begun, cut, block_at}
use Rattle.deck_chunk.specs.declared.Deck.{Deck}
use Rattle.deck_chunk.specs.declared.Lined.{Lined}
use Rattle.deck_chunk.specs.declared.Progress.{Progress}
use Rattle.deck_chunk.specs.Deck.{Table, table, Lines, lines, then_deal, table_after, deal_next, deal_blocks, deal_all}
use Rattle.deck_chunk.specs.Chunk.{chunk_told, Chunk, chunk_dealt, deal_chunk, ChunkMeets}
use Rattle.promise.specs.Told.{given}
use Rattle.deck_chunk.specs.Code.{LinedMeets, NextMeets, DoneMeets}
use Rattle.std.specs.declared.result.Result.TheVariants.{Ok, Err}

-- a text that stands in a line's array
module _ (r : Line) (text : List ℕ) (e : r ≡ line text) where
  pub text_short : length r.bytes ≡ longest_line → length text ≤ longest_line
  text_short long =
      let there : length r.bytes ≡ length (text ++ replicate (longest_line - length text) 0) = ap (λ (l : Line). length l.bytes) e in
      let sum = simp (length-append, length-replicate) at there in
      omega arith

  pub used_short : length r.bytes ≡ longest_line → r.used ≤ longest_line
  used_short long = let short = text_short long in let n : r.used ≡ length text = ap (λ (l : Line). l.used) e in omega arith

  pub text_there : take r.used r.bytes ≡ text
  text_there = ap (λ (l : Line). take l.used l.bytes) e ∙ take-append_seam text (replicate (longest_line - length text) 0)

pub lined_short : (r : Lined) (flash store : List ℕ) (bench : Bench) (block before held : List ℕ) → LinedMeets r flash store bench block before held
    → length r.line.bytes ≡ longest_line → r.line.used ≤ longest_line
lined_short r flash store bench block before held m long =
    used_short r.line (line_text (next_number bench) (next_deal bench block before held).told) m.text long

-- once the deck is over nothing is dealt
pub over_stays : (block : List ℕ) (t : Table) → t.deck.is_over ≡ true → deal_next block t ≡ lines [] 0 t
unfolding deal_next
over_stays block t e = rw e refl

pub next_none : (p : Progress) (buffer flash store block : List ℕ) → p.deck.is_over ≡ true
    → NextMeets p buffer flash store p buffer (deal_next block (table p.deck flash store))
next_none p buffer flash store block e =
    subst (λ (n : Lines). NextMeets p buffer flash store p buffer n) (sym (over_stays block (table p.deck flash store) e))
    (record {
      leaves = refl;
      blocks = omega arith;
      bytes = omega arith;
      lines = sym (over_nothing p.bytes buffer);
      one = omega arith;
      short = omega arith;
    })

abbrev progressed : Bench → Bool → ℕ → ℕ → Progress
progressed bench over blocks bytes = record { deck = record { bench = bench; is_over = over }; blocks = blocks; bytes = bytes }

abbrev line_for : Bench → List ℕ → List ℕ → List ℕ → List ℕ
line_for bench block flash store = line_text (next_number bench) (next_deal bench block flash store).told

-- the block's line is put behind the others
module _ (p : Progress) (r : Lined) (buffer flash store block after flash₁ store₁ : List ℕ) (isOver : Bool) (bytes : ℕ)
    (notOver : p.deck.is_over ≡ false) (m : LinedMeets r flash₁ store₁ p.deck.bench block flash store)
    (long : length r.line.bytes ≡ longest_line) (ends : isOver ≡ is_short block)
    (counts : bytes ≡ p.bytes + r.line.used) (puts : after ≡ over p.bytes (take r.line.used r.line.bytes) buffer) where
  one_dealt : deal_next block (table p.deck flash store)
      ≡ lines (line_for p.deck.bench block flash store) 1 (table_after (table p.deck flash store) block (next_deal p.deck.bench block flash store))
  unfolding deal_next
  one_dealt = rw notOver refl

  left : table (record { bench = r.bench; is_over = isOver }) flash₁ store₁
      ≡ table_after (table p.deck flash store) block (next_deal p.deck.bench block flash store)
  left =
      ap₂ (λ (b : Bench) (o : Bool). table (record { bench = b; is_over = o }) flash₁ store₁) m.counted ends
      ∙ ap (λ (h : Head). table (record { bench = bench_at h.device (next_number p.deck.bench) (next_tag p.deck.bench); is_over = is_short block }) h.flash h.store) m.leaves

  pub next_one : NextMeets (progressed r.bench isOver (p.blocks + 1) bytes) after flash₁ store₁ p buffer (deal_next block (table p.deck flash store))
  next_one =
      let text = line_for p.deck.bench block flash store in
      subst (λ (n : Lines). NextMeets (progressed r.bench isOver (p.blocks + 1) bytes) after flash₁ store₁ p buffer n) (sym one_dealt)
      (record {
        leaves = left;
        blocks = refl;
        bytes = counts ∙ ap (λ (l : Line). p.bytes + l.used) m.text;
        lines = puts ∙ ap (λ (t : List ℕ). over p.bytes t buffer) (text_there r.line text m.text);
        one = omega arith;
        short = text_short r.line text m.text long;
      })

-- i of n blocks are dealt, and what is left to deal makes the whole of it
pub record OnTheWay (n i : ℕ) (chunk lent flash₀ store₀ : List ℕ) (deck₀ : Deck) (p : Progress) (buffer flash store : List ℕ) : Type 0 where
  pub within : i ≤ n
  pub room : p.bytes + longest_line * (n - i) ≤ length buffer
  pub few : p.blocks ≤ i
  pub whole : then_deal (lines (take p.bytes buffer) p.blocks (table p.deck flash store)) (λ next. deal_blocks (cut (n - i) (drop (i * block_length) chunk)) next)
      ≡ deal_blocks (cut n chunk) (table deck₀ flash₀ store₀)
  pub behind : drop p.bytes buffer ≡ drop p.bytes lent
  pub long : length buffer ≡ length lent
  pub flashes : length flash ≡ length flash₀
  pub stores : length store ≡ length store₀

-- nothing done, and then all
pub nothing_first : (f : Table → Lines) (t : Table) → then_deal (lines [] 0 t) f ≡ f t
nothing_first f t = let z : 0 + (f t).blocks ≡ (f t).blocks = omega arith in ap (λ (b : ℕ). lines (f t).text b (f t).leaves) z

begins_whole : (n : ℕ) (chunk lent : List ℕ) (p : Progress) (t : Table) → p.blocks ≡ 0 → p.bytes ≡ 0
    → then_deal (lines (take p.bytes lent) p.blocks t) (λ next. deal_blocks (cut (n - 0) (drop (0 * block_length) chunk)) next) ≡ deal_blocks (cut n chunk) t
begins_whole n chunk lent p t none empty =
    let all : n - 0 ≡ n = omega arith in
    ap₂ (λ (a b : ℕ). then_deal (lines (take a lent) b t) (λ next. deal_blocks (cut (n - 0) (drop (0 * block_length) chunk)) next)) empty none
    ∙ ap (λ (k : ℕ). then_deal (lines [] 0 t) (λ next. deal_blocks (cut k chunk) next)) all
    ∙ nothing_first (λ next. deal_blocks (cut n chunk) next) t

pub begins : (n : ℕ) (chunk lent flash store : List ℕ) (p : Progress) → p.blocks ≡ 0 → p.bytes ≡ 0 → longest_line * n ≤ length lent
    → OnTheWay n 0 chunk lent flash store p.deck p lent flash store
begins n chunk lent flash store p none empty room =
    record {
      within = omega arith;
      room = omega arith;
      few = omega arith;
      whole = begins_whole n chunk lent p (table p.deck flash store) none empty;
      behind = refl;
      long = refl;
      flashes = refl;
      stores = refl;
    }

pub regroup : (l : Lines) (f g : Table → Lines) → then_deal (then_deal l f) g ≡ then_deal l (λ t. then_deal (f t) g)
regroup l f g =
    let first = f l.leaves in
    let second = g first.leaves in
    ap₂ (λ (t : List ℕ) (b : ℕ). lines t b second.leaves) (append_assoc l.text first.text second.text) (omega arith)

-- the blocks that are left begin with the next one
cut_next : (n i : ℕ) (chunk : List ℕ) → i < n
    → cut (n - i) (drop (i * block_length) chunk) ≡ block_at (i * block_length) chunk ∷ cut (n - (i + 1)) (drop ((i + 1) * block_length) chunk)
unfolding cut
cut_next n i chunk more =
    let left : n - i ≡ suc (n - (i + 1)) = omega arith in
    let place : i * block_length + block_length ≡ (i + 1) * block_length = omega arith in
    ap (λ (k : ℕ). cut k (drop (i * block_length) chunk)) left
    ∙ ap (λ (l : List ℕ). block_at (i * block_length) chunk ∷ cut (n - (i + 1)) l)
    (drop-drop block_length (i * block_length) chunk ∙ ap (λ (k : ℕ). drop k chunk) place)

-- what is done so far, with the next block
module _ (p r : Progress) (buffer after flash₁ store₁ : List ℕ) (n : Lines) (m : NextMeets r after flash₁ store₁ p buffer n)
    (room : p.bytes + longest_line ≤ length buffer) where
  inside : p.bytes + length n.text ≤ length buffer
  inside = let s = m.short in omega arith

  text_so_far : take r.bytes after ≡ take p.bytes buffer ++ n.text
  text_so_far =
      let from-0 : 0 + p.bytes ≡ p.bytes = omega arith in
      let fits : 0 + p.bytes + length n.text ≤ length buffer = let i = inside in omega arith in
      ap₂ (λ (k : ℕ) (l : List ℕ). take k l) m.bytes m.lines
      ∙ sym (ap (λ (k : ℕ). take (p.bytes + length n.text) (over k n.text buffer)) from-0) ∙ field_grows 0 p.bytes n.text buffer fits

  pub so_far : (before : Table) → lines (take r.bytes after) r.blocks (table r.deck flash₁ store₁)
      ≡ lines (take p.bytes buffer ++ n.text) (p.blocks + n.blocks) n.leaves
  so_far before =
      ap₂ (λ (t : List ℕ) (b : ℕ). lines t b (table r.deck flash₁ store₁)) text_so_far m.blocks
      ∙ ap (λ (t : Table). lines (take p.bytes buffer ++ n.text) (p.blocks + n.blocks) t) m.leaves

  pub kept_long : length after ≡ length buffer
  kept_long = ap length m.lines ∙ length_over p.bytes n.text buffer inside

  pub kept_behind : (lent : List ℕ) → drop p.bytes buffer ≡ drop p.bytes lent → drop r.bytes after ≡ drop r.bytes lent
  kept_behind lent same =
      ap₂ (λ (k : ℕ) (l : List ℕ). drop k l) m.bytes m.lines
      ∙ drop_over p.bytes n.text buffer inside
      ∙ sym (drop-drop (length n.text) p.bytes buffer)
      ∙ ap (drop (length n.text)) same
      ∙ drop-drop (length n.text) p.bytes lent
      ∙ ap (λ (k : ℕ). drop k lent) (sym m.bytes)

module _ (n i : ℕ) (chunk lent flash₀ store₀ : List ℕ) (deck₀ : Deck) (p : Progress) (buffer flash store : List ℕ)
    (way : OnTheWay n i chunk lent flash₀ store₀ deck₀ p buffer flash store) where
  pub goes_on : (r : Progress) (buffer₁ flash₁ store₁ : List ℕ) → i < n
      → NextMeets r buffer₁ flash₁ store₁ p buffer (deal_next (block_at (i * block_length) chunk) (table p.deck flash store))
      → length flash₁ ≡ length flash → length store₁ ≡ length store
      → OnTheWay n (i + 1) chunk lent flash₀ store₀ deck₀ r buffer₁ flash₁ store₁
  unfolding deal_blocks
  goes_on r buffer₁ flash₁ store₁ more m flashes stores =
      let t = table p.deck flash store in
      let b = block_at (i * block_length) chunk in
      let rest = cut (n - (i + 1)) (drop ((i + 1) * block_length) chunk) in
      let done = lines (take p.bytes buffer) p.blocks t in
      let room : p.bytes + longest_line ≤ length buffer = let w = way.room in omega arith in
      let long = kept_long p r buffer buffer₁ flash₁ store₁ (deal_next b t) m room in
      record {
        within = omega arith;
        room = let w = way.room in let s = m.short in let e = m.bytes in omega arith;
        few = let w = way.few in let o = m.one in let e = m.blocks in omega arith;
        whole =
            ap (λ (l : Lines). then_deal l (λ next. deal_blocks rest next)) (so_far p r buffer buffer₁ flash₁ store₁ (deal_next b t) m room t)
            ∙ regroup done (deal_next b) (λ next. deal_blocks rest next)
            ∙ sym (ap (λ (bs : List (List ℕ)). then_deal done (λ next. deal_blocks bs next)) (cut_next n i chunk more))
            ∙ way.whole;
        behind = kept_behind p r buffer buffer₁ flash₁ store₁ (deal_next b t) m room lent way.behind;
        long = long ∙ way.long;
        flashes = flashes ∙ way.flashes;
        stores = stores ∙ way.stores;
      }

  pub ends_there : n ≤ i → DoneMeets p buffer flash store lent (deal_blocks (cut n chunk) (table deck₀ flash₀ store₀))
  unfolding deal_blocks cut
  ends_there last =
      let none : n - i ≡ 0 = omega arith in
      let all = lines (take p.bytes buffer) p.blocks (table p.deck flash store) in
      let e : lines (take p.bytes buffer ++ []) (p.blocks + 0) (table p.deck flash store) ≡ deal_blocks (cut n chunk) (table deck₀ flash₀ store₀) =
      ap (λ (k : ℕ). then_deal all (λ next. deal_blocks (cut k (drop (i * block_length) chunk)) next)) (sym none) ∙ way.whole in
      let text : take p.bytes buffer ≡ (deal_blocks (cut n chunk) (table deck₀ flash₀ store₀)).text =
      sym (append-nil (take p.bytes buffer)) ∙ ap (λ (l : Lines). l.text) e in
      let room : p.bytes ≤ length buffer = let w = way.room in omega arith in
      let long : length (take p.bytes buffer) ≡ p.bytes = length-take-le p.bytes buffer room in
      record {
        leaves = ap (λ (l : Lines). l.leaves) e;
        blocks = let z : p.blocks ≡ p.blocks + 0 = omega arith in z ∙ ap (λ (l : Lines). l.blocks) e;
        bytes = sym long ∙ ap length text;
        lines =
            sym (take-append-drop p.bytes buffer)
            ∙ ap (λ (l : List ℕ). take p.bytes buffer ++ l) way.behind
            ∙ ap (λ (k : ℕ). take p.bytes buffer ++ drop k lent) (sym long)
            ∙ ap (λ (l : List ℕ). front l lent) text;
      }

-- the whole chunk: 20, or all of its blocks
module _ (deck : Deck) (chunk flash store buffer : List ℕ) where
  pub too_short : ltb (length buffer) (longest_line * begun (length chunk)) ≡ true
      → ChunkMeets (record { answer = Err (record {}); deck = deck }) buffer flash store (deal_chunk chunk (table deck flash store) buffer)
  unfolding deal_chunk or_refuse chunk_told
  too_short e = rw e (record { tells = refl; leaves = refl; lines = refl })

  pub fits : ltb (length buffer) (longest_line * begun (length chunk)) ≡ false
      → deal_chunk chunk (table deck flash store) buffer ≡ chunk_dealt (deal_all chunk (table deck flash store)) buffer
  unfolding deal_chunk or_refuse
  fits e = rw e refl

  pub all_dealt : (r : Progress) (after flash₁ store₁ : List ℕ) → ltb (length buffer) (longest_line * begun (length chunk)) ≡ false
      → DoneMeets r after flash₁ store₁ buffer (deal_all chunk (table deck flash store))
      → ChunkMeets (record { answer = Ok (record { blocks = r.blocks; bytes = r.bytes }); deck = r.deck }) after flash₁ store₁ (deal_chunk chunk (table deck flash store) buffer)
  unfolding chunk_told
  all_dealt r after flash₁ store₁ e m =
      subst (λ (c : Chunk). ChunkMeets (record { answer = Ok (record { blocks = r.blocks; bytes = r.bytes }); deck = r.deck }) after flash₁ store₁ c) (sym (fits e))
      (record {
        tells = ap₂ (λ (a b : ℕ). given (record { blocks = a; bytes = b })) m.blocks m.bytes;
        leaves = m.leaves;
        lines = m.lines;
      })
