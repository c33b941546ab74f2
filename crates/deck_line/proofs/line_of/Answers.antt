-- The parts of the text, put one after the other on an empty line, which has room for all of them.
use mathlib.Core.Path.{sym, ◌∙◌}
use borrow.Author.Rules.{rules}
use Rattle.deck.specs.Verdict.{verdict_told}
use Rattle.deck.proofs.VerdictUnique.{verdict_number}
use Rattle.deck_line.proofs.LineLaws.{line_made}
use Rattle.deck_line.proofs.line_of.Goals as goal

pub returns : goal.returns
returns c =
    let a = c.args in
    let refusal = c.number in
    line_made a.number refusal.result (verdict_told a.verdict a.beside) (search rules) (search rules)
    (refusal.ensures ∙ sym (verdict_number a.verdict a.beside))
    c.put_decimal.ensures
    c.put.ensures
    c.put_decimal-2.ensures
    c.put-2.ensures
    c.put_told.ensures
    c.put-3.ensures
