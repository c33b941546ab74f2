-- Two answers that a contract allows are equal: a verdict is read off what it tells.
use Rattle.std.proofs.Common.{◌≡◌, ℕ, List, sym, refl, ap, ◌∙◌, ap₂}
use Rattle.promise.specs.Told.{Told, given, refused, number}
use Rattle.operation_finish.specs.Reply.{Reply, finish_told}
use Rattle.operation_finish.specs.declared.Beside.{Beside}
use Rattle.operation_finish.proofs.Unique.{answer_of, answer_of_lem}
use Rattle.mock.specs.declared.device.MockState.{MockState}
use Rattle.run_operation.specs.declared.UsbRun.{UsbRun}
use Rattle.run_upload.specs.declared.LoadRun.{LoadRun}
use Rattle.deck.specs.declared.verdict.Dealt.{Dealt}
use Rattle.deck.specs.Verdict.{refusal_number, verdict_told, kept}
use Rattle.rule_number.specs.Number.{number_of}
use Rattle.deck.specs.Deal.{Head, head, Deal, DealMeets, OperatedMeets, LoadedMeets}
use Rattle.std.specs.Prelude.{Result}
use Rattle.operation_finish.specs.declared.UsbReply.{UsbReply}
use Rattle.protocol_status.specs.declared.failure.UsbOperationError.{UsbOperationError}
use Rattle.std.specs.declared.result.Result.TheVariants.{Ok, Err}
use Rattle.deck.specs.declared.verdict.RefusalNumber.{RefusalNumber}

abbrev of_finish : Result UsbReply UsbOperationError → Result UsbReply RefusalNumber
of_finish (Ok reply) = Ok reply
of_finish (Err error) = Err (record { 0 = 0 })

abbrev verdict_for : Told Reply → Result UsbReply RefusalNumber
verdict_for (given reply) = of_finish (answer_of (given reply))
verdict_for (refused number values) = Err (record { 0 = number })

verdict_for_lem : (v : Result UsbReply RefusalNumber) (b : Beside) → verdict_for (verdict_told v b) ≡ v
unfolding verdict_told finish_told
verdict_for_lem (Ok reply) b = ap of_finish (answer_of_lem (Ok reply) b)
verdict_for_lem (Err refusal) b = refl

pub same_verdict : (v w : Result UsbReply RefusalNumber) (b c : Beside) → verdict_told v b ≡ verdict_told w c → v ≡ w
same_verdict v w b c e = sym (verdict_for_lem v b) ∙ ap verdict_for e ∙ verdict_for_lem w c

abbrev dealt_as : Result UsbReply RefusalNumber → Beside → MockState → Dealt
dealt_as verdict beside device = record { verdict = verdict; beside = beside; device = device }

same_dealt : (r s : Dealt) → r.verdict ≡ s.verdict → r.beside ≡ s.beside → r.device ≡ s.device → r ≡ s
same_dealt r s v b d =
    let first : ◌≡◌ {A = Dealt} r (dealt_as s.verdict s.beside r.device) =
    ap₂ (λ (x : Result UsbReply RefusalNumber) (y : Beside). dealt_as x y r.device) v b in
    first ∙ ap (dealt_as s.verdict s.beside) d

pub operated_unique : (ran : UsbRun) (r s : Dealt) → OperatedMeets r ran → OperatedMeets s ran → r ≡ s
operated_unique ran r s p q =
    let verdicts = same_verdict r.verdict s.verdict r.beside s.beside (p.tells ∙ sym q.tells) in
    same_dealt r s verdicts (p.beside ∙ ap (λ (v : Result UsbReply RefusalNumber). kept v ran.beside) verdicts ∙ sym q.beside) (p.device ∙ sym q.device)

pub loaded_unique : (ran : LoadRun) (r s : Dealt) → LoadedMeets r ran → LoadedMeets s ran → r ≡ s
loaded_unique ran r s p q =
    same_dealt r s (same_verdict r.verdict s.verdict r.beside s.beside (p.tells ∙ sym q.tells))
    (p.beside ∙ sym q.beside) (p.device ∙ sym q.device)

pub deal_unique : (r s : Dealt) (flash₁ flash₂ store₁ store₂ : List ℕ) (d : Deal) → DealMeets r flash₁ store₁ d → DealMeets s flash₂ store₂ d
    → (r ≡ s) × (flash₁ ≡ flash₂) × (store₁ ≡ store₂)
deal_unique r s flash₁ flash₂ store₁ store₂ d p q =
    let heads : head r.device flash₁ store₁ ≡ head s.device flash₂ store₂ = p.leaves ∙ sym q.leaves in
    let verdicts = same_verdict r.verdict s.verdict r.beside s.beside (p.tells ∙ sym q.tells) in (
      same_dealt r s verdicts (p.beside ∙ sym q.beside) (ap (λ (h : Head). h.device) heads),
      ap (λ (h : Head). h.flash) heads,
      ap (λ (h : Head). h.store) heads,
    )

-- the number of a verdict is the number of what it tells
pub verdict_number : (v : Result UsbReply RefusalNumber) (b : Beside) → number (verdict_told v b) ≡ number_of refusal_number v
unfolding number verdict_told
verdict_number (Ok reply) b = refl
verdict_number (Err refusal) b = refl
