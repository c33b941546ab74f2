-- Block k has number k, in 64 bits, and tag k, in 32: refused or not.
use Prim.Native.Nat.{ℕ, ◌+◌, ◌%◌, ◌^◌}
use mathlib.Core.Path.{◌≡◌, ◌∙◌}
use mathlib.Core.List.{List}
use native.Mathlib.Omega.{arith}
use Rattle.deck.specs.declared.bench.Bench.{Bench}
use Rattle.deck.specs.declared.bench.DeckStep.{DeckStep}
use Rattle.deck.specs.Bench.{StepMeets}
use Rattle.theorems.specs.Deck.{Counts}

next_number_lem : (k n : ℕ) → n ≡ k % 2 ^ 64 → (n + 1) % 2 ^ 64 ≡ (k + 1) % 2 ^ 64
next_number_lem k n e = omega arith

next_tag_lem : (k n : ℕ) → n ≡ k % 2 ^ 32 → (n + 1) % 2 ^ 32 ≡ (k + 1) % 2 ^ 32
next_tag_lem k n e = omega arith

pub step_counts : (k : ℕ) (bench : Bench) (r : DeckStep) (flash store block before held : List ℕ)
    → Counts k bench → StepMeets r flash store bench block before held → Counts (k + 1) r.bench
step_counts k bench r flash store block before held counts meets =
    record {
      number = meets.number ∙ next_number_lem k bench.number counts.number;
      tag = meets.tag ∙ next_tag_lem k bench.tag counts.tag;
    }
