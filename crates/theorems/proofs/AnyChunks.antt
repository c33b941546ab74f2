-- A deck dealt in any chunks of whole blocks, the last of which may be of any length, gives the lines of the whole and leaves what the whole leaves.
use Prim.Native.Nat.{ℕ, ◌*◌, ◌≤◌}
use mathlib.Core.Path.{◌≡◌, ap, ap₂, sym, subst, ◌∙◌}
use mathlib.Core.List.{List, [], ◌∷◌, ◌++◌}
use native.Mathlib.Omega.{arith}
use lib.ListN.{length, take, drop, length-replicate}
use lib.Seq.{take-append_seam}
use borrow.Author.Tests.{le-ltb}
use Rattle.promise.specs.Told.{Told, given, refused}
use Rattle.deck.specs.declared.bench.Bench.{Bench}
use Rattle.deck.specs.declared.bench.BenchStart.{BenchStart}
use Rattle.deck.specs.Bench.{StartMeets}
use Rattle.deck_line.specs.Line.{longest_line}
use Rattle.deck_block.specs.Blocks.{begun, joined, WholeButLast}
use Rattle.deck_chunk.specs.declared.ChunkCount.{ChunkCount}
use Rattle.deck_chunk.specs.declared.ChunkStep.{ChunkStep}
use Rattle.deck_chunk.specs.Deck.{Table, table, Lines, then_deal, deal_all, new_deck, deck_start, deck_lines, bench_store_length, bench_store, bench_lines}
use Rattle.deck_chunk.specs.Chunk.{chunk_told, Chunk, chunk_dealt, deal_chunk, ChunkMeets}
use Rattle.deck_chunk.proofs.Laws.{fits}
use Rattle.deck_chunk.proofs.Cuts.{chunk_then, chunk_alone, no_input}
use Rattle.theorems.proofs.BenchStart.{default_start}
use Rattle.theorems.specs.Chunks.{written, Deals, no_more, a_chunk}
use Rattle.std.specs.Prelude.{Result}
use Rattle.rule_number.specs.declared.OutputTooShort.{OutputTooShort}
use Rattle.std.specs.declared.result.Result.TheVariants.{Ok, Err}

bytes_in : Told ChunkCount → ℕ
bytes_in (given count) = count.bytes
bytes_in (refused n values) = 0

-- what is told of a chunk that was dealt says how many bytes are its lines
written_of : (a : Result ChunkCount OutputTooShort) (count : ChunkCount) (buffer : List ℕ) → chunk_told a ≡ given count → written a buffer ≡ take count.bytes buffer
unfolding chunk_told written bytes_in
written_of (Ok other) count buffer e = let n : other.bytes ≡ count.bytes = ap bytes_in e in ap (λ (k : ℕ). take k buffer) n
written_of (Err short) count buffer e = let z : ◌≡◌ {A = ℕ} 0 1 = cc in absurd (omega arith)

module _ (t : Table) (chunk buffer : List ℕ) (r : ChunkStep) (after flash store : List ℕ)
    (room : longest_line * begun (length chunk) ≤ length buffer) (m : ChunkMeets r after flash store (deal_chunk chunk t buffer)) where
  dealt : ChunkMeets r after flash store (chunk_dealt (deal_all chunk t) buffer)
  dealt =
      subst (λ (c : Chunk). ChunkMeets r after flash store c)
      (fits t.deck chunk t.flash t.store buffer (le-ltb (length buffer) (longest_line * begun (length chunk)) room)) m

  -- one chunk: its lines, and what it leaves
  pub its_lines : written r.answer after ≡ (deal_all chunk t).text
  its_lines =
      let text = (deal_all chunk t).text in
      written_of r.answer _ after dealt.tells
      ∙ ap (take (length text)) dealt.lines
      ∙ take-append_seam text (drop (length text) buffer)

  pub its_table : table r.deck flash store ≡ (deal_all chunk t).leaves
  its_table = dealt.leaves

-- the text and the table after a chunk and the chunks behind it
then-rest : (t : Table) (chunk more : List ℕ) (rest : List ℕ) (end : Table) → deal_all (chunk ++ more) t ≡ then_deal (deal_all chunk t) (λ next. deal_all more next)
    → (rest ≡ (deal_all more (deal_all chunk t).leaves).text) × (end ≡ (deal_all more (deal_all chunk t).leaves).leaves)
    → ((deal_all chunk t).text ++ rest ≡ (deal_all (chunk ++ more) t).text) × (end ≡ (deal_all (chunk ++ more) t).leaves)
then-rest t chunk more rest end e same = (
  ap (λ (l : List ℕ). (deal_all chunk t).text ++ l) same.0 ∙ sym (ap (λ (l : Lines). l.text) e),
  same.1 ∙ sym (ap (λ (l : Lines). l.leaves) e),
)

pub any_chunks : (t : Table) (chunks : List (List ℕ)) (text : List ℕ) (end : Table) → WholeButLast chunks → Deals t chunks text end
    → (text ≡ (deal_all (joined chunks) t).text) × (end ≡ (deal_all (joined chunks) t).leaves)
unfolding joined
any_chunks t [] text end whole (no_more s) = (sym (ap (λ (l : Lines). l.text) (no_input s)), sym (ap (λ (l : Lines). l.leaves) (no_input s)))
any_chunks t (c ∷ []) text end whole (a_chunk s chunk buffer r after flash store chunks rest last room m deals) =
    let same = any_chunks (table r.deck flash store) [] rest last tt deals in
    let moved = subst (λ (x : Table). (rest ≡ (deal_all [] x).text) × (last ≡ (deal_all [] x).leaves)) (its_table s chunk buffer r after flash store room m) same in
    let both = then-rest s chunk [] rest last (chunk_alone chunk s) moved in
    (ap (λ (l : List ℕ). l ++ rest) (its_lines s chunk buffer r after flash store room m) ∙ both.0, both.1)
any_chunks t (c ∷ next ∷ others) text end whole (a_chunk s chunk buffer r after flash store chunks rest last room m deals) =
    let same = any_chunks (table r.deck flash store) (next ∷ others) rest last whole.1 deals in
    let moved =
    subst (λ (x : Table). (rest ≡ (deal_all (joined (next ∷ others)) x).text) × (last ≡ (deal_all (joined (next ∷ others)) x).leaves)) (its_table s chunk buffer r after flash store room m) same in
    let both = then-rest s chunk (joined (next ∷ others)) rest last (chunk_then chunk (joined (next ∷ others)) s whole.0) moved in
    (ap (λ (l : List ℕ). l ++ rest) (its_lines s chunk buffer r after flash store room m) ∙ both.0, both.1)

-- from a fresh start with as many bytes of flash as the Rust's default has
pub whole_deck : (r : BenchStart) (after flash store : List ℕ) (chunks : List (List ℕ)) (text : List ℕ) (end : Table) → length flash ≡ 65536
    → StartMeets r after flash (length store) → WholeButLast chunks → Deals (table (new_deck r.bench) after store) chunks text end
    → (text ≡ deck_lines store (joined chunks)) × (end ≡ (deal_all (joined chunks) (deck_start store)).leaves)
whole_deck r after flash store chunks text end long m whole deals =
    let fresh : table (new_deck r.bench) after store ≡ deck_start store =
    ap₂ (λ (b : Bench) (f : List ℕ). table (new_deck b) f store) m.fresh (default_start r after flash (length store) long m).1 in
    any_chunks (deck_start store) chunks text end whole (subst (λ (t : Table). Deals t chunks text end) fresh deals)

store_long : length bench_store ≡ bench_store_length
unfolding bench_store
store_long = length-replicate {A = ℕ} bench_store_length 0

-- and with the store that the rules give it
pub bench_deck : (r : BenchStart) (after flash : List ℕ) (chunks : List (List ℕ)) (text : List ℕ) (end : Table) → length flash ≡ 65536
    → StartMeets r after flash bench_store_length → WholeButLast chunks → Deals (table (new_deck r.bench) after bench_store) chunks text end
    → (text ≡ bench_lines (joined chunks)) × (end ≡ (deal_all (joined chunks) (deck_start bench_store)).leaves)
bench_deck r after flash chunks text end long m whole deals =
    whole_deck r after flash bench_store chunks text end long (subst (λ (n : ℕ). StartMeets r after flash n) (sym store_long) m) whole deals
