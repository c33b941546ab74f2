-- A slice that is too short, and the record in its first bytes.
use mathlib.Core.Path.{ap, ◌∙◌}
use mathlib.Core.List.{[]}
use lib.ListN.{take}
use Rattle.promise.specs.Told.{given}
use Rattle.loader_records.specs.Records.{list_of, no_list}
use Rattle.loader_records.proofs.Reading.{reads_short, reads_whole}
use Rattle.loader_records.proofs.list.RkBootHeaderEntry.from_bytes.Goals as goal

pub returns-in_default : goal.returns-in_default
returns-in_default c =
    let bytes = c.args.bytes.now in
    reads_short 6 no_list bytes c.list_of.result [] (given (list_of (take 6 bytes))) c.in_default.ensures.cases c.list_of.ensures

pub returns : goal.returns
returns c =
    let bytes = c.args.bytes.now in
    let first = c.in-Some.ensures.cases in
    reads_whole 6 no_list bytes c.list_of-2.result (list_of (take 6 bytes)) first.enough (c.list_of-2.ensures ∙ ap list_of first.same)
