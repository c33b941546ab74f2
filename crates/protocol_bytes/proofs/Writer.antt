-- A writer that refuses a short buffer and leaves it, or copies its block to the buffer's front.
use Prim.Native.Nat.{ℕ, ◌<◌, ◌≤◌}
use mathlib.Core.Path.{◌≡◌, refl, ap, sym, ◌∙◌}
use mathlib.Core.List.{List, ◌++◌}
use borrow.Author.Tests.{lt-ltb, le-ltb}
use lib.ListN.{length, take, drop}
use lib.Seq.{take-length}
use Rattle.promise.specs.Told.{Told, given, refused, number}
use Rattle.promise.specs.Rules.{or_refuse}
use Rattle.protocol_bytes.specs.Writing.{writing, written_told, WriteMeets}
use Rattle.std.specs.Prelude.{Result}
use Rattle.rule_number.specs.declared.OutputTooShort.{OutputTooShort}
use Rattle.rule_number.specs.Number.{number_of, output_too_short_number}
use Rattle.std.specs.declared.result.Result.TheVariants.{Ok, Err}

module _ (whole : ℕ) (block before : List ℕ) where
  pub writes_nothing : length before < whole → WriteMeets (Err (record {})) before before (writing whole block (length before))
  unfolding writing or_refuse written_told
  writes_nothing short = rw (lt-ltb (length before) whole short) (record { tells = refl; leaves = refl })

  pub writes_block : (after : List ℕ) → whole ≤ length before → after ≡ take (length block) block ++ drop (length block) before
      → WriteMeets (Ok whole) before after (writing whole block (length before))
  unfolding writing or_refuse written_told
  writes_block after enough e =
      rw (le-ltb (length before) whole enough)
      (record { tells = refl; leaves = e ∙ ap (λ (l : List ℕ). l ++ drop (length block) before) (take-length block) })

-- two answers that a writer's contract allows are equal, and so are the buffers they leave
abbrev answer_of : Told ℕ → (Result ℕ OutputTooShort)
answer_of (given n) = Ok n
answer_of (refused n values) = Err (record {})

answer_of_lem : (r : Result ℕ OutputTooShort) → answer_of (written_told r) ≡ r
unfolding written_told
answer_of_lem (Ok n) = refl
answer_of_lem (Err e) = refl

pub write_unique : (r s : Result ℕ OutputTooShort) (before after₁ after₂ : List ℕ) (whole room : ℕ) (block : List ℕ)
    → WriteMeets r before after₁ (writing whole block room) → WriteMeets s before after₂ (writing whole block room) → (r ≡ s) × (after₁ ≡ after₂)
write_unique r s before after₁ after₂ whole room block p q =
    (sym (answer_of_lem r) ∙ ap answer_of (p.tells ∙ sym q.tells) ∙ answer_of_lem s, p.leaves ∙ sym q.leaves)

-- the number of what a writer answers is the number of what it tells
pub written_number : (r : Result ℕ OutputTooShort) → number (written_told r) ≡ number_of output_too_short_number r
unfolding number written_told
written_number (Ok n) = refl
written_number (Err e) = refl
