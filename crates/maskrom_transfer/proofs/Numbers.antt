-- The number of an answer is the number of what it tells.
use mathlib.Core.Path.{◌≡◌, refl}
use Rattle.std.specs.Prelude.{Result}
use Rattle.std.specs.declared.result.Result.TheVariants.{Ok, Err}
use Rattle.promise.specs.Told.{number}
use Rattle.rule_number.specs.Number.{number_of, output_too_short_number}
use Rattle.rule_number.specs.declared.OutputTooShort.{OutputTooShort}
use Rattle.maskrom_transfer.specs.declared.Moved.{Moved}
use Rattle.maskrom_transfer.specs.Sending.{sent_told}

pub sent_number : (r : Result Moved OutputTooShort) → number (sent_told r) ≡ number_of output_too_short_number r
unfolding number sent_told
sent_number (Ok m) = refl
sent_number (Err e) = refl
