-- Each arm of the match is one law: what the step asked for is known, and the transfer's own function did it.
use Prim.Native.Nat.{ℕ, ◌≤◌}
use mathlib.Core.Path.{◌≡◌, refl, ap, sym, subst, ◌∙◌}
use mathlib.Core.Bool.{Bool, true, false}
use mathlib.Core.List.{List}
use native.Mathlib.Omega.{arith}
use lib.ListN.{length, take, replicate}
use lib.Seq.{length-take-le}
use Rattle.promise.specs.Rules.{pick}
use Rattle.promise.specs.Run.{Turned}
use Rattle.operation_finish.specs.Reply.{Reply}
use Rattle.operation_finish.specs.declared.Kind.{Kind}
use Rattle.operation.specs.declared.steps.Asked.TheVariants as asked
use Rattle.operation.specs.declared.steps.UsbStep.TheVariants as step
use Rattle.operation.specs.declared.steps.UsbStepped.{UsbStepped}
use Rattle.operation.specs.Step.{StepMeets, usb_step, step_told}
use Rattle.run_turn.specs.declared.UsbTurned.{UsbTurned}
use Rattle.run_turn.specs.declared.StopError.{StopError}
use Rattle.run_turn.specs.Code.{ended_by}
use Rattle.mock.specs.Device.{write_bulk, read_bulk}
use Rattle.run_turn.specs.Turn.{UsbState, usb_state, is_write, lent_to, wrote, got, usb_turn}
use Rattle.run_turn.specs.Answers.{TurnMeets, LentMeets}
use Rattle.run_turn.proofs.Meets.{within, command_meets, data_meets, inband_meets, sectors_meets, status_meets, finish_meets, refusal_meets}
use Rattle.run_turn.proofs.take_turn.Goals as goal
use Rattle.std.specs.declared.result.Result.TheVariants.{Ok, Err}

-- what the step asked for is within what was lent
module _ (s : UsbState) (stepped : UsbStepped) (out : List ℕ) (m : StepMeets stepped (replicate 31 0) out (usb_step s.operation (length s.«data») 31)) where
  write_fits : (n : ℕ) → stepped.step ≡ Ok (step.WriteData n) → (is_write s.operation.kind ≡ true) × (n ≤ length s.«data»)
  unfolding step_told
  write_fits n e = within s stepped out m (Ok (step.WriteData n)) e

  reply_fits : (n : ℕ) → stepped.step ≡ Ok (step.ReadInband n) → n ≤ 16
  unfolding step_told
  reply_fits n e = within s stepped out m (Ok (step.ReadInband n)) e

  sectors_fit : (n : ℕ) → stepped.step ≡ Ok (step.ReadData n) → (is_write s.operation.kind ≡ false) × (n ≤ length s.«data»)
  unfolding step_told
  sectors_fit n e = within s stepped out m (Ok (step.ReadData n)) e

-- sectors are not read for a write
no_write : {C : Type 0} (w : Bool) → w ≡ true → w ≡ false → C
no_write w e f = let same : true ≡ false = sym e ∙ f in absurd (let z : ◌≡◌ {A = ℕ} 0 1 = cc in omega arith)

-- a turn that leaves what is lent to read into
leaves-room : (r : UsbTurned) (kind : Kind) (source room flash : List ℕ) (t : Turned Reply UsbState) → TurnMeets r flash (lent_to kind source room) t
    → LentMeets r kind source room flash room t
leaves-room r kind source room flash t m = record { turns = m; spare = λ w. refl }

-- of the two it is the one that the kind has use for
source_fits : (kind : Kind) (source room : List ℕ) (n : ℕ) → (is_write kind ≡ true) × (n ≤ length (lent_to kind source room)) → n ≤ length source
source_fits kind source room n h = subst (λ (b : Bool). n ≤ length (pick b source room)) h.0 h.1

room_fits : (kind : Kind) (source room : List ℕ) (n : ℕ) → (is_write kind ≡ false) × (n ≤ length (lent_to kind source room)) → n ≤ length room
room_fits kind source room n h = subst (λ (b : Bool). n ≤ length (pick b source room)) h.0 h.1

pub returns-in-WriteCommand : goal.returns-in-WriteCommand
returns-in-WriteCommand c =
    let a = c.args in
    let t = c.write_turn in
    let o = c.step_over-stepped in
    let lent = lent_to a.operation.kind a.source.now a.room.now in
    let s = usb_state a.operation a.device a.flash.now lent in
    leaves-room t.result a.operation.kind a.source.now a.room.now t.new.flash (usb_turn s)
    (command_meets s o.result o.new.out o.ensures t.result t.new.flash lent
    (c.in-Ok.is ∙ ap Ok c.in-WriteCommand.is) (t.ensures lent))

pub slice_bounds-write_turn-end-in-WriteData : goal.slice_bounds-write_turn-end-in-WriteData
slice_bounds-write_turn-end-in-WriteData c =
    let a = c.args in
    let o = c.step_over-stepped in
    let s = usb_state a.operation a.device a.flash.now (lent_to a.operation.kind a.source.now a.room.now) in
    let size = c.in-WriteData.size in
    sym (length-take-le size a.source.now
    (source_fits a.operation.kind a.source.now a.room.now size (write_fits s o.result o.new.out o.ensures size (c.in-Ok.is ∙ ap Ok c.in-WriteData.is))))

pub returns-in-WriteData : goal.returns-in-WriteData
returns-in-WriteData c =
    let a = c.args in
    let o = c.step_over-stepped in
    let t = c.write_turn-in-WriteData in
    let size = c.in-WriteData.size in
    let lent = lent_to a.operation.kind a.source.now a.room.now in
    let s = usb_state a.operation a.device a.flash.now lent in
    leaves-room t.result a.operation.kind a.source.now a.room.now t.new.flash (usb_turn s)
    (data_meets s o.result o.new.out o.ensures t.result t.new.flash lent size (c.in-Ok.is ∙ ap Ok c.in-WriteData.is)
    (subst
    (λ (b : Bool). TurnMeets t.result t.new.flash lent (wrote (usb_state o.result.next a.device a.flash.now lent) (write_bulk a.device a.flash.now (take size (pick b a.source.now a.room.now)))))
    (sym (write_fits s o.result o.new.out o.ensures size (c.in-Ok.is ∙ ap Ok c.in-WriteData.is)).0) (t.ensures lent)))

pub reply_turn-requires : goal.reply_turn-requires
reply_turn-requires c =
    let a = c.args in
    let o = c.step_over-stepped in
    let s = usb_state a.operation a.device a.flash.now (lent_to a.operation.kind a.source.now a.room.now) in
    reply_fits s o.result o.new.out o.ensures c.in-ReadInband.size (c.in-Ok.is ∙ ap Ok c.in-ReadInband.is)

pub returns-in-ReadInband : goal.returns-in-ReadInband
returns-in-ReadInband c =
    let a = c.args in
    let o = c.step_over-stepped in
    let lent = lent_to a.operation.kind a.source.now a.room.now in
    let s = usb_state a.operation a.device a.flash.now lent in
    leaves-room c.reply_turn.result a.operation.kind a.source.now a.room.now a.flash.now (usb_turn s)
    (inband_meets s o.result o.new.out o.ensures c.reply_turn.result a.flash.now lent
    c.in-ReadInband.size (c.in-Ok.is ∙ ap Ok c.in-ReadInband.is) (c.reply_turn.ensures lent))

pub sectors_turn-requires : goal.sectors_turn-requires
sectors_turn-requires c =
    let a = c.args in
    let o = c.step_over-stepped in
    let s = usb_state a.operation a.device a.flash.now (lent_to a.operation.kind a.source.now a.room.now) in
    let size = c.in-ReadData.size in
    room_fits a.operation.kind a.source.now a.room.now size (sectors_fit s o.result o.new.out o.ensures size (c.in-Ok.is ∙ ap Ok c.in-ReadData.is))

pub returns-in-ReadData : goal.returns-in-ReadData
returns-in-ReadData c =
    let a = c.args in
    let o = c.step_over-stepped in
    let t = c.sectors_turn in
    let size = c.in-ReadData.size in
    let lent = lent_to a.operation.kind a.source.now a.room.now in
    let s = usb_state a.operation a.device a.flash.now lent in
    record {
      turns =
          sectors_meets s o.result o.new.out o.ensures t.result a.flash.now (lent_to a.operation.kind a.source.now t.new.room) size (c.in-Ok.is ∙ ap Ok c.in-ReadData.is)
          (subst
          (λ (b : Bool). TurnMeets t.result a.flash.now (pick b a.source.now t.new.room) (got asked.Sectors (usb_state o.result.next a.device a.flash.now (pick b a.source.now a.room.now)) (read_bulk a.device a.flash.now (take size (pick b a.source.now a.room.now)))))
          (sym (sectors_fit s o.result o.new.out o.ensures size (c.in-Ok.is ∙ ap Ok c.in-ReadData.is)).0) t.ensures);
      spare = λ w. no_write (is_write a.operation.kind) w (sectors_fit s o.result o.new.out o.ensures size (c.in-Ok.is ∙ ap Ok c.in-ReadData.is)).0;
    }

pub returns-in-ReadStatus : goal.returns-in-ReadStatus
returns-in-ReadStatus c =
    let a = c.args in
    let o = c.step_over-stepped in
    let lent = lent_to a.operation.kind a.source.now a.room.now in
    let s = usb_state a.operation a.device a.flash.now lent in
    leaves-room c.reply_turn-in-ReadStatus.result a.operation.kind a.source.now a.room.now a.flash.now (usb_turn s)
    (status_meets s o.result o.new.out o.ensures c.reply_turn-in-ReadStatus.result a.flash.now lent
    c.in-ReadStatus.field-0 (c.in-Ok.is ∙ ap Ok c.in-ReadStatus.is) (c.reply_turn-in-ReadStatus.ensures lent))

pub returns-in-Finished : goal.returns-in-Finished
returns-in-Finished c =
    let a = c.args in
    let o = c.step_over-stepped in
    let lent = lent_to a.operation.kind a.source.now a.room.now in
    let s = usb_state a.operation a.device a.flash.now lent in
    leaves-room c.ended-in-Finished.result a.operation.kind a.source.now a.room.now a.flash.now (usb_turn s)
    (subst (λ (r : UsbTurned). TurnMeets r a.flash.now lent (usb_turn s)) (sym c.ended-in-Finished.ensures)
    (finish_meets s o.result o.new.out o.ensures c.in-Finished.reply (c.in-Ok.is ∙ ap Ok c.in-Finished.is)))

pub returns-in-Err : goal.returns-in-Err
returns-in-Err c =
    let a = c.args in
    let o = c.step_over-stepped in
    let lent = lent_to a.operation.kind a.source.now a.room.now in
    let s = usb_state a.operation a.device a.flash.now lent in
    leaves-room c.ended.result a.operation.kind a.source.now a.room.now a.flash.now (usb_turn s)
    (subst (λ (r : UsbTurned). TurnMeets r a.flash.now lent (usb_turn s))
    (sym (c.ended.ensures ∙ ap (λ (e : StopError). ended_by (Err e) o.result.beside o.result.next a.device) c.from.ensures))
    (refusal_meets s o.result o.new.out o.ensures c.in-Err.error c.in-Err.is))
