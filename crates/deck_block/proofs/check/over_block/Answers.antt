-- A block that is shorter than its checked bytes is all of them.
use Rattle.std.proofs.Common.{ℕ, take, ap, ◌∙◌}
use Rattle.std.proofs.lemmas.List.{take_min}
use Rattle.crc.specs.Check.{crc_over}
use Rattle.deck_block.proofs.check.over_block.Goals as goal

pub returns : goal.returns
returns c =
    let a = c.args in
    c.update.ensures ∙ ap (crc_over a.crc) (ap (λ (n : ℕ). take n a.block.now) c.min.ensures ∙ take_min 510 a.block.now)
