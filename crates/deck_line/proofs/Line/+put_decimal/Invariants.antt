-- The number is its own measure: its tenth part is less, from 10 on.
use Rattle.deck_line.proofs.Line.+put_decimal.Given as goal

abbrev pub decreases-put_decimal : goal.decreases-put_decimal
decreases-put_decimal l = l.number
