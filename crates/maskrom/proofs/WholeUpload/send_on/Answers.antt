-- The register covers the chunk, so the step is what `send_lent` tells of it: told on as a step of this record, or its refusal passed on.
use Rattle.std.proofs.Common.{◌≡◌, ℕ, ◌≤◌, List, [], length, take, ap, ap₂, subst, ◌∙◌}
use lib.Seq.{take_all}
use Rattle.crc.specs.Check.{crc_over}
use Rattle.promise.specs.Told.{Told, given, refused}
use Rattle.promise.specs.Rules.{too_short}
use Rattle.promise.specs.Does.{Does, does, Meets}
use Rattle.maskrom_transfer.specs.declared.Moved.{Moved}
use Rattle.maskrom_transfer.specs.Sending.{sent_told, send_step}
use Rattle.maskrom_transfer.proofs.Cases.{goes_on, passes_on}
use Rattle.maskrom.specs.declared.WholeUpload.{WholeUpload}
use Rattle.maskrom.specs.declared.WholeStepped.{WholeStepped}
use Rattle.maskrom.specs.Answers.{step_told, Asks}
use Rattle.maskrom.specs.PartWise.{asks}
use Rattle.maskrom.specs.Whole.{sent_on, sends_on}
use Rattle.maskrom.proofs.WholeUpload.send_on.Goals as goal

-- what the caller's record comes to, once it is known what is told and handed back
handed : (r : WholeStepped) (told : Told Asks) (next self : WholeUpload) (w old new : List ℕ) → step_told r.step ≡ told → r.next ≡ next
    → Meets told next old new self (sends_on self w (length old)) → Meets (step_told r.step) r.next old new self (sends_on self w (length old))
handed r told next self w old new t n m = rw (t, n) m

-- what `send_lent` promises, of the chunk itself: one transfer can hold it
sent_chunk : (told : Told Moved) (u : WholeUpload) (crc : ℕ) (w old new : List ℕ) → crc ≡ crc_over u.crc w → length w ≤ 4096
    → Meets told tt old new tt (send_step u.steps crc (take 4096 w) (length old))
    → Meets told tt old new tt (send_step u.steps (crc_over u.crc w) w (length old))
sent_chunk told u crc w old new covers fits =
    subst (λ (step : Told (Does Moved Unit)). Meets told tt old new tt step)
    (ap₂ (λ (x : ℕ) (l : List ℕ). send_step u.steps x l (length old)) covers (take_all 4096 w fits))

pub returns-in_default : goal.returns-in_default
unfolding step_told sent_told sends_on
returns-in_default c =
    let u = c.args.self in
    let w = c.args.chunk.now in
    let out = c.args.out.now in
    let step = send_step u.steps (crc_over u.crc w) w (length out) in
    let new = c.send_lent-sent.new.out in
    handed c.after_step.result (refused too_short []) u u w out new
    (ap (λ (r : WholeStepped). step_told r.step) c.after_step.ensures)
    (ap (λ (r : WholeStepped). r.next) c.after_step.ensures)
    (passes_on u out new too_short
    (λ (d : Does Moved Unit). given (does (asks u.steps u.area d.says.size) d.sends (sent_on u (length w) d.says.crc d.says.steps))) step
    (sent_chunk (refused too_short []) u c.crc_over-crc.result w out new c.crc_over-crc.ensures c.requires.0 c.in_default.ensures))

pub returns : goal.returns
unfolding sent_told sends_on
returns c =
    let u = c.args.self in
    let w = c.args.chunk.now in
    let out = c.args.out.now in
    let step = send_step u.steps (crc_over u.crc w) w (length out) in
    let new = c.send_lent-sent.new.out in
    let to = c.in-Ok.to in
    handed c.after_step-2.result (given (asks u.steps u.area to.size)) (sent_on u (length w) to.crc to.steps) u w out new
    (ap (λ (r : WholeStepped). step_told r.step) c.after_step-2.ensures ∙ c.asked-step.ensures)
    (ap (λ (r : WholeStepped). r.next) c.after_step-2.ensures ∙ c.moved_on.ensures)
    (goes_on u out new to (λ (x : Moved). asks u.steps u.area x.size) (λ (x : Moved). sent_on u (length w) x.crc x.steps) step
    (sent_chunk (given to) u c.crc_over-crc.result w out new c.crc_over-crc.ensures c.requires.0 c.in-Ok.ensures))
