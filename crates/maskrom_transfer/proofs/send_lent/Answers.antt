-- The test is the rule of 20; past it the step is what `send_at` gives, since one transfer can hold no more than a block (`take_min`).
use Rattle.std.proofs.Common.{◌≡◌, ℕ, List, length, take, min, refl, ap, subst, ◌∙◌, arith}
use Rattle.promise.specs.Told.{given}
use Rattle.promise.specs.Does.{does}
use Rattle.maskrom_transfer.specs.Moves.{moves_at}
use Rattle.maskrom_transfer.specs.Code.{SendMeets}
use Rattle.maskrom_transfer.specs.Sending.{sent_told, moved}
use Rattle.maskrom_transfer.proofs.Lists.{take_min}
use Rattle.maskrom_transfer.proofs.Cases.{acts, moved_is, send_acts}
use Rattle.maskrom_transfer.proofs.send_lent.Goals as goal

pub returns : goal.returns
unfolding sent_told
returns c =
    let a = c.args in
    let l = a.bytes.now in
    let w = take 4096 l in
    let to = moves_at a.steps a.crc w in
    let p = c.send_at in
    let e : c.min-left.result ≡ min 4096 (length l) = omega (arith, c.min-left.ensures) in
    let same : take c.min-left.result l ≡ w = ap (λ (n : ℕ). take n l) e ∙ take_min 4096 l in
    let m : SendMeets p.result a.out.now p.new.out to =
    subst (λ (k : List ℕ). SendMeets p.result a.out.now p.new.out (moves_at a.steps a.crc k)) same p.ensures in
    acts (does (moved to) to.bytes tt) (send_acts a.steps a.crc w (length a.out.now) c.if-out-lt-BLOCK.false)
    (ap given (moved_is p.result a.out.now p.new.out to m)) refl m.leaves
