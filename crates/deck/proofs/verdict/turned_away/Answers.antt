-- The refusal's number, and zeros beside it.
use Rattle.std.proofs.Common.{ap}
use Rattle.operation_finish.specs.declared.Beside.{Beside}
use Rattle.deck.specs.declared.verdict.Dealt.{Dealt}
use Rattle.deck.proofs.verdict.turned_away.Goals as goal
use Rattle.std.specs.declared.result.Result.TheVariants.{Err}

pub returns : goal.returns
returns c =
    let a = c.args in
    ap {B = Dealt} (λ (b : Beside). record { verdict = Err (record { 0 = a.number }); beside = b; device = a.device }) c.blank.ensures
