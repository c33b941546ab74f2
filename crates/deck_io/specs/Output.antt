-- What a write of all bytes answers.
use Rattle.std.specs.Prelude.{ℕ, Bool, true, false, Result}
use Rattle.std.specs.declared.result.Result.TheVariants.{Ok, Err}
use Rattle.deck_io.specs.declared.output.Shut.{Shut}

-- whether the output takes no more, and how many bytes it took
abbrev pub is_shut : Result ℕ Shut → Bool
is_shut (Ok n) = false
is_shut (Err shut) = true

abbrev pub written : Result ℕ Shut → ℕ
written (Ok n) = n
written (Err shut) = shut.0
