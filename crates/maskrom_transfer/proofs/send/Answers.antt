-- The bytes that are lent on are the first n of the block (`take_min`), and no more than one transfer can hold.
use Rattle.std.proofs.Common.{◌≡◌, ℕ, List, length, take, min, ap, sym, subst, ◌∙◌, arith, rules}
use lib.Seq.{length-take-le, take_all}
use Rattle.promise.specs.Does.{Meets}
use Rattle.maskrom_transfer.specs.Sending.{sent_told, send_step}
use Rattle.maskrom_transfer.proofs.Lists.{take_min}
use Rattle.maskrom_transfer.proofs.send.Goals as goal

pub returns : goal.returns
returns c =
    let a = c.args in
    let b = a.block in
    let k = c.min-left.result in
    let whole : length b ≡ 4096 = search rules in
    let long : length (take k b) ≡ k = length-take-le k b (omega (arith, c.min-left.ensures)) in
    let same : take 4096 (take k b) ≡ take a.n b =
    take_all 4096 (take k b) (omega (arith, c.min-left.ensures))
    ∙ ap (λ (m : ℕ). take m b) (c.min-left.ensures ∙ ap (min a.n) (sym whole))
    ∙ take_min a.n b in
    subst (λ (l : List ℕ). Meets (sent_told c.send_lent.result) tt a.out.now c.send_lent.new.out tt (send_step a.steps a.crc l (length a.out.now)))
    same
    c.send_lent.ensures
