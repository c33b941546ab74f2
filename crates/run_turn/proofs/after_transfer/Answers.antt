-- What the device answered is told, and nothing else changes.
use mathlib.Core.Path.{ap₂, sym, subst}
use Rattle.operation_finish.specs.declared.Beside.{Beside}
use Rattle.run_turn.specs.declared.UsbTurned.{UsbTurned}
use Rattle.run_turn.specs.Turn.{usb_state, onward}
use Rattle.run_turn.specs.Answers.{TurnMeets}
use Rattle.run_turn.specs.Code.{turned_by}
use Rattle.run_turn.proofs.Meets.{after_answer}
use Rattle.run_turn.proofs.after_transfer.Goals as goal
use Rattle.std.specs.Prelude.{Result}
use Rattle.operation_finish.specs.declared.UsbReply.{UsbReply}
use Rattle.run_turn.specs.declared.StopError.{StopError}
use Rattle.std.specs.declared.ops.ControlFlow.{ControlFlow}

pub returns : goal.returns
returns c =
    λ told flash bytes m.
    let a = c.args in
    let d = a.done.answer in
    subst (λ (r : UsbTurned). TurnMeets r flash bytes (onward told (usb_state a.operation a.done.state flash bytes)))
    (sym (ap₂ (λ (t : ControlFlow (Result UsbReply StopError) Unit) (b : Beside). turned_by t b a.operation a.done.state) c.turn_after-turn.ensures c.blank-beside.ensures))
    (after_answer d.result d.signature told a.operation a.done.state flash bytes m.tells m.signature)
