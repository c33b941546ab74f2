-- One count, or two with a slash between.
use borrow.Author.Rules.{rules}
use Rattle.deck_line.specs.Line.{transfer_text}
use Rattle.deck_line.proofs.LineLaws.{at_transfer, put_count, put_counts}
use Rattle.deck_line.proofs.Line.put_transfer.Goals as goal

pub returns-in-Whole : goal.returns-in-Whole
unfolding transfer_text
returns-in-Whole c =
    let a = c.args in
    at_transfer _ a.self c.in-Whole.is (put_count _ a.self _ (search rules) c.put_decimal.ensures)

pub returns-in-Short : goal.returns-in-Short
unfolding transfer_text
returns-in-Short c =
    let a = c.args in
    let s = c.in-Short.short in
    at_transfer _ a.self c.in-Short.is
    (put_counts a.self s.moved.0 s.asked.0 (search rules) (search rules) c.put_decimal-in-Short.ensures c.put.ensures
    c.put_decimal-in-Short-2.ensures)
