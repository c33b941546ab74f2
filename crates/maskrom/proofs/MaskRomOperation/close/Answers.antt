-- The step is what `send` tells at the bytes that wait: told on as a step of this record, or its refusal passed on.
use Rattle.std.proofs.Common.{◌≡◌, ℕ, List, [], length, ap, ◌∙◌}
use Rattle.promise.specs.Told.{Told, given, refused}
use Rattle.promise.specs.Rules.{too_short}
use Rattle.promise.specs.Does.{Does, Meets}
use Rattle.maskrom_transfer.specs.declared.Moved.{Moved}
use Rattle.maskrom_transfer.specs.Sending.{sent_told, send_step}
use Rattle.maskrom_transfer.proofs.Cases.{goes_on, passes_on}
use Rattle.maskrom.specs.declared.MaskRomOperation.{MaskRomOperation}
use Rattle.maskrom.specs.declared.CloseStepped.{CloseStepped}
use Rattle.maskrom.specs.Answers.{step_told, Asks}
use Rattle.maskrom.specs.PartWise.{held, asks, with_moved, closes, close_step}
use Rattle.maskrom.proofs.MaskRomOperation.close.Goals as goal

-- what the caller's record comes to, once it is known what is told and handed back
handed : (r : CloseStepped) (told : Told Asks) (next self : MaskRomOperation) (old new : List ℕ) → step_told r.step ≡ told → r.next ≡ next
    → Meets told next old new self (close_step self (length old)) → Meets (step_told r.step) r.next old new self (close_step self (length old))
handed r told next self old new t n m = rw (t, n) m

pub returns-in_default : goal.returns-in_default
unfolding step_told sent_told close_step
returns-in_default c =
    let m = c.args.self in
    let out = c.args.out.now in
    let step = send_step m.steps m.crc (held m) (length out) in
    let new = c.send-sent.new.out in
    handed c.after_close.result (refused too_short []) m m out new
    (ap (λ (r : CloseStepped). step_told r.step) c.after_close.ensures)
    (ap (λ (r : CloseStepped). r.next) c.after_close.ensures)
    (passes_on m out new too_short (λ (d : Does Moved Unit). given (closes m d)) step c.in_default.ensures)

pub returns : goal.returns
unfolding sent_told close_step
returns c =
    let m = c.args.self in
    let out = c.args.out.now in
    let step = send_step m.steps m.crc (held m) (length out) in
    let new = c.send-sent.new.out in
    let to = c.in-Ok.to in
    handed c.after_close-2.result (given (asks m.steps m.area to.size)) (with_moved m to.crc to.steps) m out new
    (ap (λ (r : CloseStepped). step_told r.step) c.after_close-2.ensures ∙ c.asked-step.ensures)
    (ap (λ (r : CloseStepped). r.next) c.after_close-2.ensures ∙ c.moved_to.ensures)
    (goes_on m out new to (λ (x : Moved). asks m.steps m.area x.size) (λ (x : Moved). with_moved m x.crc x.steps) step c.in-Ok.ensures)
