-- A slice that is too short, and the record in its first bytes.
use mathlib.Core.Path.{ap, ◌∙◌}
use mathlib.Core.List.{[]}
use lib.ListN.{take}
use Rattle.promise.specs.Told.{given}
use Rattle.loader_records.specs.Records.{time_of, no_time}
use Rattle.loader_records.proofs.Reading.{reads_short, reads_whole}
use Rattle.loader_records.proofs.time.RkTime.from_bytes.Goals as goal

pub returns-in_default : goal.returns-in_default
returns-in_default c =
    let bytes = c.args.bytes.now in
    reads_short 7 no_time bytes c.time_of.result [] (given (time_of (take 7 bytes))) c.in_default.ensures.cases c.time_of.ensures

pub returns : goal.returns
returns c =
    let bytes = c.args.bytes.now in
    let first = c.in-Some.ensures.cases in
    reads_whole 7 no_time bytes c.time_of-2.result (time_of (take 7 bytes)) first.enough (c.time_of-2.ensures ∙ ap time_of first.same)
