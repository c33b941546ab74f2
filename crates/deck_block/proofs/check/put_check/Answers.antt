-- A short block stays; in any other the bytes are copied to their place.
use Prim.Native.Nat.{ℕ}
use mathlib.Core.Path.{ap, sym, ◌∙◌}
use mathlib.Core.List.{List}
use lib.ListN.{length}
use Rattle.promise.specs.Over.{over}
use Rattle.promise.proofs.Copied.{put_over}
use Rattle.promise.proofs.Order.{length_high_first}
use Rattle.deck_block.proofs.Put.{put_in_short, put_in_place}
use Rattle.deck_block.proofs.check.put_check.Goals as goal

pub returns-then-block-lt-CHECK_END : goal.returns-then-block-lt-CHECK_END
returns-then-block-lt-CHECK_END c = let a = c.args in sym (put_in_short a.check a.block.now c.if-block-lt-CHECK_END.true)

pub returns : goal.returns
returns c =
    let a = c.args in
    let copy = c.copy_from_slice in
    let bytes = copy.ensures.after ∙ c.u16_to_be_bytes.ensures in
    put_over 510 2 a.block.now copy.new.self (ap length bytes ∙ length_high_first 2 a.check)
    ∙ ap (λ (l : List ℕ). over 510 l a.block.now) bytes
    ∙ sym (put_in_place a.check a.block.now c.if-block-lt-CHECK_END.false)
