-- Every field is zero.
use mathlib.Core.Path.{refl}
use Rattle.promise.specs.Bytes.{from_low}
use Rattle.loader_records.specs.Records.{entry_of, units_from}
use Rattle.loader_records.proofs.entry.RkBootEntry.none.Goals as goal

pub returns : goal.returns
unfolding entry_of units_from from_low
returns c = refl
