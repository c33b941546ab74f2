-- Each cell beside its byte is looked at, and the cells took all exactly if each kept its byte.
use mathlib.Core.Path.{◌≡◌, ap, sym, ◌∙◌}
use mathlib.Core.Bool.{Bool}
use Rattle.std.proofs.Common.{rules, tests}
use Rattle.std.proofs.lemmas.Iterator.{YieldsList-from_slice, YieldsList-from_zip}
use Rattle.std.proofs.lemmas.Iterator.Search.{all_from_yields_List}
use Rattle.promise.specs.Rules.{pick}
use Rattle.protocol_codes.specs.declared.Status.{Status}
use Rattle.protocol_codes.specs.declared.Status.TheVariants.{SUCCESS, FAILED}
use Rattle.mock_effects.specs.Effects.{cells_told}
use Rattle.mock_effects.proofs.Programming.{keeps_byte, took, all_took}
use Rattle.mock_effects.proofs.apply.cells_told.Goals as goal
use Rattle.mock_effects.proofs.apply.cells_told.Goals.{After-all}

abbrev tells : Bool → Status
tells all = pick all SUCCESS FAILED

all_kept : (c : After-all) → c.all.result ≡ took c.args.asked.now c.args.old.now
all_kept c =
    all_from_yields_List keeps_byte c.all.new.self _ c.all.result c.all.ensures.ran
    (YieldsList-from_zip (YieldsList-from_slice c.args.old.now cc) (YieldsList-from_slice c.args.asked.now cc)) (λ x b q k. search (rules, tests))
    ∙ all_took c.args.old.now c.args.asked.now c.requires

pub returns-then-all : goal.returns-then-all
unfolding cells_told
returns-then-all c = ap tells (sym c.if-all.true ∙ all_kept (goal.at.returns-then-all c).After-all)

pub returns-else-all : goal.returns-else-all
unfolding cells_told
returns-else-all c = ap tells (sym c.if-all.false ∙ all_kept (goal.at.returns-else-all c).After-all)
