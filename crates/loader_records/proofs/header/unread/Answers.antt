-- A header of zeros.
use mathlib.Core.Path.{refl}
use Rattle.promise.specs.Bytes.{from_low}
use Rattle.loader_records.specs.Records.{header_of, time_of, list_of}
use Rattle.loader_records.proofs.header.unread.Goals as goal

pub returns : goal.returns
unfolding header_of time_of list_of from_low
returns c = rw c.header_of.ensures refl
