-- A slice that is too short, and the record in its first bytes.
use mathlib.Core.Path.{ap, ◌∙◌}
use mathlib.Core.List.{[]}
use lib.ListN.{take}
use Rattle.promise.specs.Told.{given}
use Rattle.loader_records.specs.Records.{entry_of, no_entry}
use Rattle.loader_records.proofs.Reading.{reads_short, reads_whole}
use Rattle.loader_records.proofs.entry.RkBootEntry.from_bytes.Goals as goal

pub returns-in_default : goal.returns-in_default
returns-in_default c =
    let bytes = c.args.bytes.now in
    reads_short 57 no_entry bytes c.none.result [] (given (entry_of (take 57 bytes))) c.in_default.ensures.cases c.none.ensures

pub returns : goal.returns
returns c =
    let bytes = c.args.bytes.now in
    let first = c.in-Some.ensures.cases in
    reads_whole 57 no_entry bytes c.entry_of.result (entry_of (take 57 bytes)) first.enough (c.entry_of.ensures ∙ ap entry_of first.same)
