-- What is passed is programmed and what is left is as it was.
use Prim.Native.Nat.{ℕ}
use mathlib.Core.Path.{◌≡◌, ap, ap₂, ◌∙◌}
use mathlib.Core.List.{List}
use native.Mathlib.Omega.{arith}
use lib.Bits.{bit_and}
use lib.ListN.{set, get_or}
use Rattle.mock_effects.proofs.Programming.{none_so_far, next_so_far, whole_so_far, kept_so_far}
use Rattle.mock_effects.proofs.apply.clear_bits.Goals as goal

pub loop-i-init : goal.loop-i-init
loop-i-init c = none_so_far c.args.asked.now c.args.part.now

pub loop-i-preserved : goal.loop-i-preserved
loop-i-preserved c =
    let i = c.loop-i.i in
    let asked = c.args.asked.now in
    let before = c.args.part.now in
    let byte : get_or c.loop-i.part i 0 ≡ get_or before i 0 =
    ap (λ (p : List ℕ). get_or p i 0) c.loop-i.invariant ∙ kept_so_far i asked before c.requires c.loop-i-test.true in
    ap₂ (λ (p : List ℕ) (b : ℕ). set p i (bit_and b (get_or asked i 0))) c.loop-i.invariant byte
    ∙ next_so_far i asked before c.requires c.loop-i-test.true

pub returns : goal.returns
returns c = c.loop-i.invariant ∙ whole_so_far c.loop-i.i c.args.asked.now c.args.part.now c.requires (omega (arith, c.loop-i.auto.i-end, c.loop-i-test.false))
