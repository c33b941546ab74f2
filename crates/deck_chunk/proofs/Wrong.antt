-- Programs that the contracts rule out, whatever their proofs: each answer is refuted at a named chunk.
use Prim.Native.Nat.{ℕ, ◌+◌}
use mathlib.Core.Path.{◌≡◌, ap, sym, ◌∙◌}
use mathlib.Core.Bool.{Bool, true, false}
use mathlib.Core.List.{List, [], ◌∷◌}
use native.Mathlib.Omega.{arith}
use lib.ListN.{replicate}
use Rattle.promise.specs.Told.{Told, given, refused, number}
use Rattle.promise.specs.Rules.{or_refuse, pick}
use Rattle.mock.specs.declared.device.MockState.{MockState}
use Rattle.deck.specs.declared.bench.Bench.{Bench}
use Rattle.deck.specs.Bench.{bench_at}
use Rattle.deck_line.specs.Digits.{digit, digits, decimal}
use Rattle.deck_line.specs.Line.{line_text}
use Rattle.deck_block.specs.Blocks.{cut}
use Rattle.deck_chunk.specs.declared.Deck.{Deck}
use Rattle.deck_chunk.specs.declared.ChunkCount.{ChunkCount}
use Rattle.deck_chunk.specs.declared.ChunkStep.{ChunkStep}
use Rattle.deck_chunk.specs.Deck.{Table, table, new_deck, deal_next, deal_blocks}
use Rattle.deck_chunk.specs.Chunk.{chunk_told, deal_chunk, ChunkMeets}
use Rattle.std.specs.declared.result.Result.TheVariants.{Ok, Err}

-- 20 told as 0
pub short_is_0 : 0 ≡ number (chunk_told (Err (record {}))) → ⊥
unfolding number chunk_told
short_is_0 e = omega arith

-- how many blocks were dealt, told as a refusal
pub count_for_the_number : (count : ChunkCount) → count.blocks ≡ 1 → count.blocks ≡ number (chunk_told (Ok count)) → ⊥
unfolding number chunk_told
count_for_the_number count one e = omega arith

flag : Bool → ℕ
flag b = pick b 1 0

-- a new deck that is over: no block of it would be dealt
pub over_at_first : (r : Deck) (bench : Bench) → r.is_over ≡ true → r ≡ new_deck bench → ⊥
unfolding flag
over_at_first r bench e m = let z : ◌≡◌ {A = ℕ} 1 0 = sym (ap flag e) ∙ ap (λ (d : Deck). flag d.is_over) m in omega arith

-- a new deck with another bench than the one that is handed in: its first block would be number 2
pub another_bench : (r : Deck) (bench : Bench) → r.bench.number ≡ bench.number + 1 → r ≡ new_deck bench → ⊥
another_bench r bench e m = let z : r.bench.number ≡ bench.number = ap (λ (d : Deck). d.bench.number) m in omega arith

-- a block's first byte, and lines for it: one byte of a buffer that is long enough or too short
abbrev begins : List ℕ
begins = 1 ∷ []

-- a chunk that is refused always: no blocks want no room
pub always_refusing : (r : ChunkStep) (lines flash store : List ℕ) (t : Table) → r.answer ≡ Err (record {})
    → ChunkMeets r lines flash store (deal_chunk [] t []) → ⊥
unfolding deal_chunk or_refuse chunk_told number
always_refusing r lines flash store t e m =
    let z : ◌≡◌ {A = ℕ} 20 0 = ap number (sym (ap chunk_told e) ∙ m.tells) in omega arith

-- a line for which there may be no room, put all the same
pub room_not_looked_at : (r : ChunkStep) (lines flash store : List ℕ) (t : Table) (count : ChunkCount) → r.answer ≡ Ok count
    → ChunkMeets r lines flash store (deal_chunk begins t []) → ⊥
unfolding deal_chunk or_refuse chunk_told number
room_not_looked_at r lines flash store t count e m =
    let z : ◌≡◌ {A = ℕ} 0 20 = ap number (sym (ap chunk_told e) ∙ m.tells) in omega arith

dealt_blocks : Told ChunkCount → ℕ
dealt_blocks (given count) = count.blocks
dealt_blocks (refused n values) = 0

-- a short block that does not end the deck
pub goes_on_after_44 : (r : ChunkStep) (lines flash store before held : List ℕ) (b : Bench) → r.deck.is_over ≡ false
    → ChunkMeets r lines flash store (deal_chunk begins (table (record { bench = b; is_over = false }) before held) (replicate 64 0)) → ⊥
unfolding deal_chunk or_refuse deal_next deal_blocks cut flag
goes_on_after_44 r lines flash store before held b e m =
    let z : ◌≡◌ {A = ℕ} 0 1 = sym (ap flag e) ∙ ap (λ (t : Table). flag t.deck.is_over) m.leaves in omega arith

-- a block that is dealt to a deck that is over
pub dealt_when_over : (r : ChunkStep) (lines flash store before held : List ℕ) (b : Bench) (count : ChunkCount) → r.answer ≡ Ok count → count.blocks ≡ 1
    → ChunkMeets r lines flash store (deal_chunk begins (table (record { bench = b; is_over = true }) before held) (replicate 64 0)) → ⊥
unfolding deal_chunk or_refuse deal_next deal_blocks cut chunk_told dealt_blocks
dealt_when_over r lines flash store before held b count e one m =
    let told = sym (ap chunk_told e) ∙ m.tells in
    let z : count.blocks ≡ 0 = ap dealt_blocks told in omega arith

first_of : List ℕ → ℕ
first_of [] = 0
first_of (x ∷ rest) = x

-- bytes behind the lines that are cleared: a chunk of no bytes has no lines, and a byte of its buffer stays
pub clears_behind_the_lines : (r : ChunkStep) (lines flash store : List ℕ) (t : Table) → lines ≡ 0 ∷ []
    → ChunkMeets r lines flash store (deal_chunk [] t (7 ∷ [])) → ⊥
unfolding deal_chunk or_refuse deal_blocks cut first_of
clears_behind_the_lines r lines flash store t e m = let z : ◌≡◌ {A = ℕ} 0 7 = ap first_of (sym e ∙ m.lines) in omega arith

-- a line that is counted and not written
pub buffer_as_it_was : (r : ChunkStep) (lines flash store before held : List ℕ) (device : MockState) → lines ≡ replicate 64 0
    → ChunkMeets r lines flash store (deal_chunk begins (table (new_deck (bench_at device 0 0)) before held) (replicate 64 0)) → ⊥
unfolding deal_chunk or_refuse deal_next deal_blocks cut first_of line_text decimal digits digit
buffer_as_it_was r lines flash store before held device e m = let z : ◌≡◌ {A = ℕ} 0 49 = ap first_of (sym e ∙ m.lines) in omega arith
