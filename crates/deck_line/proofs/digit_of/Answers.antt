-- A digit below 10 is a figure, any other a letter.
use mathlib.Core.Path.{sym}
use Rattle.deck_line.proofs.DigitLaws.{digit_low, digit_high}
use Rattle.deck_line.proofs.digit_of.Goals as goal

pub returns-then-value-lt10 : goal.returns-then-value-lt10
returns-then-value-lt10 c = sym (digit_low _ c.if-value-lt10.true)

pub returns : goal.returns
returns c = sym (digit_high _ c.if-value-lt10.false)
