-- The device's answer to the control write is passed on (`carried_by`); a control call's refusal carries no signature.
use mathlib.Core.Path.{sym, subst}
use native.Mathlib.Omega.{arith}
use lib.ListN.{take, length-take}
use Rattle.mock.specs.Device.{write_control}
use Rattle.run_upload.specs.declared.LoadTurned.{LoadTurned}
use Rattle.run_upload.specs.Load.{carried}
use Rattle.run_upload.specs.Answers.{TurnMeets}
use Rattle.run_upload.proofs.Quiet.{control_quiet}
use Rattle.run_upload.proofs.Cases.{carried_by}
use Rattle.run_upload.proofs.carry.Goals as goal

pub slice_bounds-write_control-end : goal.slice_bounds-write_control-end
slice_bounds-write_control-end c = simp length-take (omega arith)

pub returns : goal.returns
returns c =
    let w = c.write_control-sent in
    let a = c.args in
    let bytes = take a.c.size a.block.now in
    let store = a.store.now in
    let call = write_control a.device a.c.request_type a.c.request a.c.value a.c.index bytes store in
    let left = w.new.store in
    subst (λ (r : LoadTurned). TurnMeets r left (carried a.upload call)) (sym c.after_control.ensures)
    (carried_by a.upload w.result left call w.ensures
    (control_quiet a.device a.c.request_type a.c.request a.c.value a.c.index bytes store))
