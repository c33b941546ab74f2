-- The number of an answer that is a value or a refusal, and those of the refusals that answers of several kinds share.
use Rattle.std.specs.Prelude.{ℕ, Result}
use Rattle.std.specs.declared.result.Result.TheVariants.{Ok, Err}
use Rattle.rule_number.specs.declared.OutputTooShort.{OutputTooShort}
use Rattle.rule_number.specs.declared.OutOfSteps.{OutOfSteps}

-- 0 for what is given, and the number of the refusal
abbrev pub number_of : {A E : Type 0} → (E → ℕ) → Result A E → ℕ
number_of refusal_number (Ok value) = 0
number_of refusal_number (Err error) = refusal_number error

-- "output too short"
abbrev pub output_too_short_number : OutputTooShort → ℕ
output_too_short_number refusal = 20

-- "out of steps"
abbrev pub out_of_steps_number : OutOfSteps → ℕ
out_of_steps_number refusal = 28
