-- The bits as eight bytes (`as_bytes`), which go one by one, and the rest behind them.
use Rattle.std.proofs.Common.{ℕ, ap, ◌∙◌, arith}
use Rattle.crc.specs.Check.{crc_over}
use Rattle.crc.proofs.Words.{as_bytes}
use Rattle.crc.proofs.settle.Goals as goal

pub returns : goal.returns
returns c =
    c.over_bytes.ensures
    ∙ ap (λ (r : ℕ). crc_over r c.args.rest.now) (c.over_bytes-crc.ensures ∙ ap (crc_over 0) c.to_be_bytes.ensures ∙ as_bytes c.args.bits (omega arith))
