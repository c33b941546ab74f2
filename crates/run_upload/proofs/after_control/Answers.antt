-- Each arm is the definition at the device's answer.
use mathlib.Core.Path.{ap, sym, ◌∙◌}
use Rattle.std.specs.Prelude.{Result}
use Rattle.mock_base.specs.declared.error.MockTransportError.{MockTransportError}
use Rattle.std.specs.declared.result.Result.TheVariants.{Err}
use Rattle.std.specs.declared.ops.ControlFlow.TheVariants.{Break}
use Rattle.run_upload.specs.declared.LoadStopError.{LoadStopError}
use Rattle.run_upload.specs.Code.{turned_by, after_result}
use Rattle.run_upload.proofs.after_control.Goals as goal

pub returns-in-Ok : goal.returns-in-Ok
unfolding after_result
returns-in-Ok c =
    let a = c.args in
    c.turned.ensures ∙ ap (λ (r : Result Unit MockTransportError). turned_by (after_result r) a.upload a.sent.state) (sym c.in-Ok.is)

pub returns-in-Err : goal.returns-in-Err
unfolding after_result
returns-in-Err c =
    let a = c.args in
    c.turned-in-Err.ensures
    ∙ ap (λ (e : LoadStopError). turned_by (Break (Err e)) a.upload a.sent.state) c.into.ensures
    ∙ ap (λ (r : Result Unit MockTransportError). turned_by (after_result r) a.upload a.sent.state) (sym c.in-Err.is)
