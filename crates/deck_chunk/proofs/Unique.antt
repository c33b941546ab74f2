-- Two steps that the contract allows are equal, and so are the lines, the flash and the store that they leave.
use Prim.Native.Nat.{ℕ}
use mathlib.Core.Path.{◌≡◌, refl, ap, ap₂, sym, ◌∙◌}
use mathlib.Core.List.{List}
use Rattle.promise.specs.Told.{Told, given, refused, number}
use Rattle.deck_chunk.specs.declared.Deck.{Deck}
use Rattle.deck_chunk.specs.declared.ChunkCount.{ChunkCount}
use Rattle.deck_chunk.specs.declared.ChunkStep.{ChunkStep}
use Rattle.rule_number.specs.Number.{number_of, output_too_short_number}
use Rattle.deck_chunk.specs.Deck.{Table}
use Rattle.deck_chunk.specs.Chunk.{chunk_told, Chunk, ChunkMeets}
use Rattle.std.specs.Prelude.{Result}
use Rattle.rule_number.specs.declared.OutputTooShort.{OutputTooShort}
use Rattle.std.specs.declared.result.Result.TheVariants.{Ok, Err}

-- number and values tell an answer whole
answer_from : Told ChunkCount → Result ChunkCount OutputTooShort
answer_from (given count) = Ok count
answer_from (refused n values) = Err (record {})

answer_from_lem : (a : Result ChunkCount OutputTooShort) → answer_from (chunk_told a) ≡ a
unfolding answer_from chunk_told
answer_from_lem (Ok count) = refl
answer_from_lem (Err e) = refl

pub chunk_unique : (r s : ChunkStep) (lines₁ lines₂ flash₁ flash₂ store₁ store₂ : List ℕ) (c : Chunk)
    → ChunkMeets r lines₁ flash₁ store₁ c → ChunkMeets s lines₂ flash₂ store₂ c
    → (r ≡ s) × (lines₁ ≡ lines₂) × (flash₁ ≡ flash₂) × (store₁ ≡ store₂)
chunk_unique r s lines₁ lines₂ flash₁ flash₂ store₁ store₂ c p q =
    let tables = p.leaves ∙ sym q.leaves in
    let answers : r.answer ≡ s.answer =
    sym (answer_from_lem r.answer) ∙ ap answer_from (p.tells ∙ sym q.tells) ∙ answer_from_lem s.answer in (
      ap₂ (λ (a : Result ChunkCount OutputTooShort) (d : Deck). record { answer = a; deck = d }) answers (ap (λ (t : Table). t.deck) tables),
      p.lines ∙ sym q.lines,
      ap (λ (t : Table). t.flash) tables,
      ap (λ (t : Table). t.store) tables,
    )

-- the number of an answer is the number of what it tells
pub chunk_number : (r : Result ChunkCount OutputTooShort) → number (chunk_told r) ≡ number_of output_too_short_number r
unfolding number chunk_told
chunk_number (Ok count) = refl
chunk_number (Err e) = refl
