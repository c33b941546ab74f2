-- A refusal by its number, and a finish without a value.
use Rattle.std.proofs.Common.{◌≡◌, rules, ap, sym, ◌∙◌}
use Rattle.std.specs.Prelude.{Result}
use Rattle.std.specs.declared.result.Result.TheVariants.{Err}
use Rattle.operation_finish.specs.declared.UsbReply.{UsbReply}
use Rattle.deck.specs.declared.verdict.RefusalNumber.{RefusalNumber}
use Rattle.deck.specs.Verdict.{verdict_told}
use Rattle.deck.proofs.VerdictLaws.{load_by_number, load_finished}
use Rattle.deck.proofs.verdict.of_load.Goals as goal

pub returns-in_err-by_number : goal.returns-in_err-by_number
returns-in_err-by_number c b =
    let passed : c.from_residual.result ≡ Err c.in_err-by_number.field-0.0 = search rules in
    ap (λ (v : Result UsbReply RefusalNumber). verdict_told v b) passed
    ∙ load_by_number c.args.answer _ b (sym c.by_number.ensures ∙ c.in_err-by_number.was)

pub returns : goal.returns
returns c b = load_finished c.args.answer _ b (sym c.by_number.ensures ∙ c.in_ok-by_number.was)
