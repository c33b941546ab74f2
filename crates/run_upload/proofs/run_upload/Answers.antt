-- What the checks tell decides the run, and past them stand its turns.
use Rattle.std.proofs.Common.{◌≡◌, length, refl, ap, sym, ◌∙◌, Err}
use Rattle.promise.specs.Told.{given, refused}
use Rattle.promise.specs.Rules.{unless}
use Rattle.promise.specs.Run.{runs}
use Rattle.run_upload.specs.declared.LoadError.{LoadError}
use Rattle.run_upload.specs.declared.LoadError.TheVariants.{Stopped}
use Rattle.run_upload.specs.Load.{load_state, load_turn, load_rules, unstarted, load_run}
use Rattle.run_upload.specs.Answers.{stop_error_number, load_stop_told}
use Rattle.run_upload.specs.Code.{run_by}
use Rattle.run_upload.proofs.Checks.{stop_values, told_by, stopped, as_run, run_refused, run_begins}
use Rattle.run_upload.proofs.run_upload.Goals as goal

pub returns-in-Err : goal.returns-in-Err
returns-in-Err c =
    let a = c.args in
    let s = load_state a.upload a.device a.store.now in
    let e = c.in-Err.error in
    let n = stop_error_number e in
    let values = stop_values e in
    let told : unless {A = Unit} (load_rules s (length a.flash.now) (length a.image.now)) (given tt) ≡ refused n values =
    sym c.checked.ensures ∙ ap load_stop_told c.in-Err.is ∙ told_by e in
    as_run c.ran.result (run_by (Err (Stopped e)) 0 a.upload a.device) a.store.now (load_run a.image.now (length a.flash.now) a.budget s) (unstarted s n values)
    (c.ran.ensures ∙ ap (λ (x : LoadError). run_by (Err x) 0 a.upload a.device) c.into.ensures)
    (run_refused a.image.now (length a.flash.now) a.budget s n values told) (stopped e s n values (told_by e))

pub returns : goal.returns
unfolding load_stop_told
returns c =
    let a = c.args in
    let s = load_state a.upload a.device a.store.now in
    let r = c.run_on in
    as_run r.result r.result r.new.store (load_run a.image.now (length a.flash.now) a.budget s) (runs (load_turn a.image.now) a.budget s) refl
    (run_begins a.image.now (length a.flash.now) a.budget s (sym c.checked.ensures ∙ ap load_stop_told c.in_default.is)) r.ensures
