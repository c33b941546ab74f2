-- What the private functions of the code give.
use Rattle.std.specs.Prelude.{ℕ, List}
use Rattle.loader_records.specs.Records.{no_header}
use Rattle.loader_records.specs.declared.answer.RkBootError.{RkBootError}
use Rattle.loader_records.specs.declared.header.RkBootHeaderRead.{RkBootHeaderRead}
use Rattle.std.specs.declared.result.Result.TheVariants.{Err}

-- no header, and why
abbrev pub unread : RkBootError → List ℕ → RkBootHeaderRead
unread error tag = record { answer = Err error; header = no_header; unknown_tag = tag }
