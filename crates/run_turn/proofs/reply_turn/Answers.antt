-- The device's call says what stands in the buffer then, and that is given where the device did it.
use Prim.Native.Nat.{ℕ, ◌≤◌}
use mathlib.Core.Path.{◌≡◌, refl, ap, sym, subst, ◌∙◌}
use mathlib.Core.List.{List, ◌++◌}
use native.Mathlib.Omega.{arith}
use lib.ListN.{length, take, drop, replicate, length-append}
use lib.Seq.{length-take-le, take_at}
use Rattle.operation.specs.declared.steps.Asked.TheVariants as asked
use Rattle.operation.specs.Give.{usb_give}
use Rattle.mock.specs.Device.{read_bulk}
use Rattle.run_turn.specs.Turn.{usb_state, landed, gives, got}
use Rattle.run_turn.specs.Answers.{TurnMeets}
use Rattle.run_turn.specs.Code.{where_done}
use Rattle.run_turn.proofs.Meets.{take_same, read_meets}
use Rattle.run_turn.proofs.reply_turn.Goals as goal

-- what the device left of the part that was lent to it is that part
part_long : (size : ℕ) (first back : List ℕ) → size ≤ length first → length back ≡ length (take size first) → length back ≡ size
part_long size first back h l = l ∙ length-take-le size first h

part_back : (size : ℕ) (first back : List ℕ) → size ≤ length first → length back ≡ length (take size first) → take size (back ++ drop size first) ≡ back
part_back size first back h l = take_at back (drop size first) size (part_long size first back h l)

pub slice_bounds-read_bulk-end : goal.slice_bounds-read_bulk-end
slice_bounds-read_bulk-end c = sym (length-take-le c.args.size (replicate 16 0) c.requires)

pub slice_bounds-reply-end-2 : goal.slice_bounds-reply-end-2
slice_bounds-reply-end-2 c =
    let b = c.read_bulk-read in
    simp length-append (omega (arith, part_long c.args.size (replicate 16 0) b.new.data c.requires b.auto.data))

pub slice_bounds-given_after-end : goal.slice_bounds-given_after-end
slice_bounds-given_after-end c =
    let b = c.read_bulk-read in
    sym (ap length (part_back c.args.size (replicate 16 0) b.new.data c.requires b.auto.data) ∙ part_long c.args.size (replicate 16 0) b.new.data c.requires b.auto.data)

pub returns : goal.returns
unfolding landed gives
returns c =
    λ lent.
    let a = c.args in
    let b = c.read_bulk-read in
    let v = c.given_after-next in
    let fresh : List ℕ = take a.size (replicate 16 0) in
    let g = read_bulk a.device a.flash.now fresh in
    subst
    (λ (l : List ℕ). TurnMeets c.after_transfer.result a.flash.now lent (got asked.Status (usb_state a.operation a.device a.flash.now lent) (read_bulk a.device a.flash.now l)))
    (take_same a.size 16 0 c.requires)
    (read_meets c.after_transfer.result b.result.answer asked.Status a.operation v.result b.result.state a.flash.now lent g
    b.ensures.tells b.ensures.next refl
    (v.ensures.value ∙ ap (λ (l : List ℕ). where_done b.result.answer.result (usb_give a.operation l 0).next a.operation) (part_back a.size (replicate 16 0) b.new.data c.requires b.auto.data ∙ b.ensures.leaves))
    (c.after_transfer.ensures g.told a.flash.now lent b.ensures.tells))
