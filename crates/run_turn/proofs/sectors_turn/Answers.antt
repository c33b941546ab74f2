-- What the device left of the part that was lent to it stands at the front of the caller's data, and the empty giving adds nothing to it.
use Prim.Native.Nat.{ℕ, ◌≤◌}
use mathlib.Core.Path.{◌≡◌, refl, ap, sym, subst, ◌∙◌}
use mathlib.Core.List.{List, [], ◌++◌}
use native.Mathlib.Omega.{arith}
use lib.ListN.{length, take, drop, length-append, length-drop, length-take}
use lib.Seq.{length-take-le}
use Rattle.promise.specs.Bytes.{front}
use Rattle.operation.specs.declared.steps.Asked.TheVariants as asked
use Rattle.operation.specs.Give.{usb_give}
use Rattle.mock.specs.Device.{read_bulk}
use Rattle.run_turn.specs.Turn.{usb_state, landed, gives, got}
use Rattle.run_turn.specs.Answers.{TurnMeets}
use Rattle.run_turn.specs.Code.{where_done}
use Rattle.run_turn.proofs.Meets.{read_meets, lent_front}
use Rattle.run_turn.proofs.sectors_turn.Goals as goal

pub slice_bounds-read_bulk-end-2 : goal.slice_bounds-read_bulk-end-2
slice_bounds-read_bulk-end-2 c = simp length-take (omega arith)

pub shape_of-room : goal.shape_of-room
shape_of-room c =
    let a = c.args in
    let b = c.read_bulk-read in
    let v = c.given_after-next in
    let first : length v.new.room ≡ length (b.new.data ++ drop a.size a.room.now) = v.auto.room in
    let part : length b.new.data ≡ a.size = b.auto.data ∙ length-take-le a.size a.room.now c.requires in
    let h : a.size ≤ length a.room.now = c.requires in
    first ∙ simp (length-append, length-drop) (omega arith)

pub returns : goal.returns
unfolding landed gives
returns c =
    let a = c.args in
    let b = c.read_bulk-read in
    let v = c.given_after-next in
    let g = read_bulk a.device a.flash.now (take a.size a.room.now) in
    let room = front g.leaves a.room.now in
    let then : b.new.data ++ drop a.size a.room.now ≡ room =
    lent_front a.size a.room.now b.new.data g.leaves c.requires b.auto.data b.ensures.leaves in
    subst (λ (l : List ℕ). TurnMeets c.after_transfer.result a.flash.now l (got asked.Sectors (usb_state a.operation a.device a.flash.now a.room.now) g))
    (sym (v.ensures.room_unchanged refl ∙ then))
    (read_meets c.after_transfer.result b.result.answer asked.Sectors a.operation v.result b.result.state a.flash.now room g
    b.ensures.tells b.ensures.next refl
    (v.ensures.value ∙ ap (λ (l : List ℕ). where_done b.result.answer.result (usb_give a.operation [] (length l)).next a.operation) then)
    (c.after_transfer.ensures g.told a.flash.now room b.ensures.tells))
