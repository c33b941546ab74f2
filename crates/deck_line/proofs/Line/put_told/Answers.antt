-- A reply's value, or a dash for a refusal.
use Rattle.deck.specs.Verdict.{verdict_told}
use Rattle.deck_line.specs.Line.{told_by}
use Rattle.deck_line.proofs.LineLaws.{at_verdict, put_dash}
use Rattle.deck_line.proofs.Line.put_told.Goals as goal

pub returns-in-Ok : goal.returns-in-Ok
unfolding told_by verdict_told
returns-in-Ok c =
    let a = c.args in
    at_verdict _ a.self a.beside c.in-Ok.is c.put_value.ensures

pub returns-in-Err : goal.returns-in-Err
unfolding told_by verdict_told
returns-in-Err c =
    let a = c.args in
    at_verdict _ a.self a.beside c.in-Err.is (put_dash _ a.self c.put.ensures)
