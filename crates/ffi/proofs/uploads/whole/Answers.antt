-- An upload that is started is driven from there, one that is not is 25.
use mathlib.Core.Path.{ap, sym, subst, ◌∙◌}
use mathlib.Core.List.{[]}
use Rattle.std.proofs.Common.{of_calls}
use Rattle.promise.specs.Told.{number}
use Rattle.maskrom.specs.Answers.{start_told, too_long}
use Rattle.maskrom.specs.Whole.{fresh_whole, start_step}
use Rattle.ffi.specs.Drive.{Drove, DriveMeets, step_of}
use Rattle.ffi.proofs.UploadsTold.{start_refused, start_given}
use Rattle.ffi.proofs.uploads.whole.Goals as goal

pub returns-in-Err : goal.returns-in-Err
unfolding start_told number
returns-in-Err c =
    let a = c.args in
    let s = c.write_area-started.ensures in
    let none = start_refused a.image.now a.out.now a.budget (start_step a.area a.image.now) too_long []
    (sym (ap start_told c.in-Err.is) ∙ s.tells) in
    let told = c.number.ensures in
    record { tells = told ∙ sym (ap (λ (d : Drove). d.number) none); leaves = sym (ap (λ (d : Drove). d.out) none) }

pub returns : goal.returns
unfolding start_told
returns c =
    let a = c.args in
    let s = c.write_area-started in
    let run = c.drive in
    subst (λ (d : Drove). DriveMeets run.result run.new.out d)
    (start_given a.image.now a.out.now a.budget (start_step a.area a.image.now) (fresh_whole a.area 0) s.result.upload
    (sym (ap start_told c.in_default.is) ∙ s.ensures.tells) s.ensures.next)
    (run.ensures (step_of a.image.now) (λ s lent r left post. search of_calls))
