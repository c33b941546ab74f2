-- The verdict tells what the run's answer does, whatever of the run's bytes is kept (`told_kept`).
use Rattle.std.proofs.Common.{ap, ◌∙◌}
use Rattle.std.specs.Prelude.{Result}
use Rattle.operation_finish.specs.declared.UsbReply.{UsbReply}
use Rattle.deck.specs.declared.verdict.RefusalNumber.{RefusalNumber}
use Rattle.deck.specs.Verdict.{verdict_told}
use Rattle.deck.proofs.VerdictLaws.{run_by_number, as_operated}
use Rattle.deck.proofs.verdict.operated.Goals as goal

pub returns : goal.returns
returns c =
    let ran = c.args.ran in
    let verdict = c.by_number-verdict in
    as_operated verdict.result _ ran
    (ap (λ (v : Result UsbReply RefusalNumber). verdict_told v ran.beside) verdict.ensures ∙ run_by_number ran.answer ran.beside) c.kept_beside.ensures
