-- 64 bits behind 64 bits (`next_word`).
use mathlib.Core.Path.{sym}
use native.Mathlib.Omega.{arith}
use Rattle.crc.proofs.Words.{over, gathered, folded, next_word}
use Rattle.crc.proofs.fold.Statement.{statement}
use Rattle.crc.proofs.fold.Tie as tie

returns : tie.Need-returns
unfolding over gathered folded
returns c = sym (next_word c.args.before c.args.word (omega arith))

pub fold_spec : {M : Type 1} → statement M
fold_spec = tie.close (tie.spec (λ c. omega arith) (λ c. omega arith) returns)
