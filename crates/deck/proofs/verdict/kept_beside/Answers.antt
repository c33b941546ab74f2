-- Each arm is the definition at its verdict.
use Rattle.std.proofs.Common.{sym, ap, ◌∙◌}
use Rattle.std.specs.Prelude.{Result}
use Rattle.operation_finish.specs.declared.UsbReply.{UsbReply}
use Rattle.deck.specs.declared.verdict.RefusalNumber.{RefusalNumber}
use Rattle.deck.specs.Verdict.{kept}
use Rattle.deck.proofs.verdict.kept_beside.Goals as goal

pub returns-in-Ok : goal.returns-in-Ok
unfolding kept
returns-in-Ok c = let a = c.args in sym (ap (λ (v : Result UsbReply RefusalNumber). kept v a.beside) c.in-Ok.is)

pub returns-in-Err : goal.returns-in-Err
unfolding kept
returns-in-Err c =
    let a = c.args in
    c.blank.ensures ∙ sym (ap (λ (v : Result UsbReply RefusalNumber). kept v a.beside) c.in-Err.is)
