-- Programs that the contracts of the bench rule out, whatever their proofs: each answer is refuted at a named bench.
use Rattle.std.proofs.Common.{◌≡◌, ℕ, List, [], ◌∷◌, get_or, replicate, sym, refl, ap, ◌∙◌, arith}
use Rattle.promise.specs.Told.{Told, given, refused, and_then}
use Rattle.promise.specs.Rules.{or_refuse}
use Rattle.mock_base.specs.Flash.{flash_rules, flash_sectors}
use Rattle.mock_base.specs.Told.{result_told}
use Rattle.deck.specs.declared.bench.Bench.{Bench}
use Rattle.deck.specs.declared.bench.BenchStart.{BenchStart}
use Rattle.deck.specs.declared.bench.DeckStep.{DeckStep}
use Rattle.deck.specs.Bench.{fresh_bench, start_told, start_flash, StartMeets, StepMeets}
use Rattle.std.specs.Prelude.{Result}
use Rattle.mock_base.specs.declared.error.MockTransportError.{MockTransportError}
use Rattle.std.specs.declared.result.Result.TheVariants.{Ok}

-- a bench whose first block has the tag 2
pub first_block_is_2 : (r : BenchStart) (after flash : List ℕ) (n : ℕ) → r.bench.tag ≡ 1 → StartMeets r after flash n → ⊥
first_block_is_2 r after flash n e m = let z : r.bench.tag ≡ 0 = ap (λ (b : Bench). b.tag) m.fresh in omega arith

-- a bench whose first block has the number 2
pub number_from_1 : (r : BenchStart) (after flash : List ℕ) (n : ℕ) → r.bench.number ≡ 1 → StartMeets r after flash n → ⊥
number_from_1 r after flash n e m = let z : r.bench.number ≡ 0 = ap (λ (b : Bench). b.number) m.fresh in omega arith

-- a sector is taken, and half of one is not
taken : start_told 512 ≡ given tt
unfolding and_then flash_sectors flash_rules or_refuse
taken = refl

half : start_told 256 ≡ refused 60 (256 ∷ [])
unfolding and_then flash_sectors flash_rules or_refuse
half = refl

-- the first byte of a lent sector
first_byte : (r : BenchStart) (after : List ℕ) (b n : ℕ) → StartMeets r after (replicate 512 b) n → get_or after 0 0 ≡ 0xFF
unfolding start_flash
first_byte r after b n m = ap (λ (l : List ℕ). get_or l 0 0) (m.leaves ∙ ap (λ (t : Told Unit). start_flash t (replicate 512 b)) taken)

-- a flash of zeros, whatever was lent
pub flash_of_zeros : (r : BenchStart) (b n : ℕ) → StartMeets r (replicate 512 0) (replicate 512 b) n → ⊥
flash_of_zeros r b n m = let z : ◌≡◌ {A = ℕ} 0 0xFF = first_byte r (replicate 512 0) b n m in omega arith

-- a flash that is left as it was lent
pub flash_as_lent : (r : BenchStart) (n : ℕ) → StartMeets r (replicate 512 1) (replicate 512 1) n → ⊥
flash_as_lent r n m = let z : ◌≡◌ {A = ℕ} 1 0xFF = first_byte r (replicate 512 1) 1 n m in omega arith

-- 60 told as done
pub refusal_not_told : (r : BenchStart) (after : List ℕ) (b n : ℕ) → r.answer.result ≡ Ok tt → StartMeets r after (replicate 256 b) n → ⊥
unfolding result_told
refusal_not_told r after b n e m =
    let told = m.tells.tells ∙ half in
    let z : ◌≡◌ {A = ℕ} 0 1 = cc (told, ap (λ (x : Result Unit MockTransportError). result_told x r.answer.signature) e) in omega arith

-- a refused flash that is cleared all the same
pub refused_flash_cleared : (r : BenchStart) (n : ℕ) → StartMeets r (replicate 256 0xFF) (replicate 256 1) n → ⊥
unfolding start_flash
refused_flash_cleared r n m =
    let z : ◌≡◌ {A = ℕ} 0xFF 1 = ap (λ (l : List ℕ). get_or l 0 0) (m.leaves ∙ ap (λ (t : Told Unit). start_flash t (replicate 256 1)) half) in omega arith

-- a refused block that has no tag of its own
pub refused_not_counted : (r : DeckStep) (flash store before held : List ℕ) (n : ℕ) → r.bench.tag ≡ (fresh_bench n).tag
    → StepMeets r flash store (fresh_bench n) [] before held → ⊥
refused_not_counted r flash store before held n stands m = let z : ◌≡◌ {A = ℕ} 0 1 = sym stands ∙ m.tag in omega arith

-- a number that stands still
pub number_stands : (r : DeckStep) (flash store block before held : List ℕ) (n : ℕ) → r.bench.number ≡ (fresh_bench n).number
    → StepMeets r flash store (fresh_bench n) block before held → ⊥
number_stands r flash store block before held n stands m = let z : ◌≡◌ {A = ℕ} 0 1 = sym stands ∙ m.number in omega arith
