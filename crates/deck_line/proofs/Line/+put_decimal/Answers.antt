-- Below 10 the last digit is the only one, from 10 on it stands behind those of the tenth part.
use Rattle.deck_line.proofs.LineLaws.{only_digit, last_digit}
use Rattle.deck_line.proofs.Line.+put_decimal.Goals as goal

pub returns-then-number-lt10 : goal.returns-then-number-lt10
returns-then-number-lt10 t c =
    let a = c.args in
    only_digit a.self _ _ a.number c.if-number-lt10.true c.digit_of-last.ensures c.put.ensures

pub returns : goal.returns
returns t c =
    let a = c.args in
    last_digit a.self _ _ _ a.number c.if-number-lt10.false c.digit_of-last.ensures c.put_decimal.ensures c.put-2.ensures
