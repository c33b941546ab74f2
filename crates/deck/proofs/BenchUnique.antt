-- Two starts and two steps that the contract allows are equal, and so are the flash and the store that they leave.
use Rattle.std.proofs.Common.{◌≡◌, ℕ, List, length, sym, ap, ◌∙◌, ap₂}
use Rattle.mock_base.specs.declared.error.MockAnswer.{MockAnswer}
use Rattle.mock_base.proofs.Unique.{answers_unique}
use Rattle.operation_finish.specs.declared.Beside.{Beside}
use Rattle.deck.specs.Deal.{Head, head}
use Rattle.deck.proofs.VerdictUnique.{same_verdict}
use Rattle.deck.specs.declared.bench.Bench.{Bench}
use Rattle.deck.specs.declared.bench.BenchStart.{BenchStart}
use Rattle.deck.specs.declared.bench.DeckStep.{DeckStep}
use Rattle.deck.specs.Bench.{bench_at, start_told, StartMeets, StepMeets}
use Rattle.std.specs.Prelude.{Result}
use Rattle.operation_finish.specs.declared.UsbReply.{UsbReply}
use Rattle.deck.specs.declared.verdict.RefusalNumber.{RefusalNumber}

pub start_unique : (r s : BenchStart) (after₁ after₂ flash : List ℕ) (n : ℕ) → StartMeets r after₁ flash n → StartMeets s after₂ flash n
    → (r ≡ s) × (after₁ ≡ after₂)
start_unique r s after₁ after₂ flash n p q = (
  ap₂ (λ (a : MockAnswer) (b : Bench). record { answer = a; bench = b })
      (answers_unique r.answer s.answer (start_told (length flash)) p.tells q.tells)
      (p.fresh ∙ sym q.fresh),
  p.leaves ∙ sym q.leaves,
)

abbrev step_as : Result UsbReply RefusalNumber → Beside → Bench → DeckStep
step_as verdict beside bench = record { verdict = verdict; beside = beside; bench = bench }

pub step_unique : (r s : DeckStep) (flash₁ flash₂ store₁ store₂ : List ℕ) (bench : Bench) (block before held : List ℕ)
    → StepMeets r flash₁ store₁ bench block before held → StepMeets s flash₂ store₂ bench block before held
    → (r ≡ s) × (flash₁ ≡ flash₂) × (store₁ ≡ store₂)
step_unique r s flash₁ flash₂ store₁ store₂ bench block before held p q =
    let heads : head r.bench.device flash₁ store₁ ≡ head s.bench.device flash₂ store₂ = p.leaves ∙ sym q.leaves in
    let counts : ◌≡◌ {A = Bench} r.bench (bench_at r.bench.device s.bench.number s.bench.tag) =
    ap₂ (λ (n t : ℕ). bench_at r.bench.device n t) (p.number ∙ sym q.number) (p.tag ∙ sym q.tag) in
    let benches : r.bench ≡ s.bench = counts ∙ ap (λ (h : Head). bench_at h.device s.bench.number s.bench.tag) heads in
    let verdicts = same_verdict r.verdict s.verdict r.beside s.beside (p.tells ∙ sym q.tells) in (
      ap₂ (λ (v : Result UsbReply RefusalNumber) (b : Beside). step_as v b r.bench) verdicts (p.beside ∙ sym q.beside)
          ∙ ap (step_as s.verdict s.beside) benches,
      ap (λ (h : Head). h.flash) heads,
      ap (λ (h : Head). h.store) heads,
    )
