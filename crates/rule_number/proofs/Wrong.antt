-- Programs that the contracts rule out: no proof at all can exist for them.
use Prim.Native.Nat.{ℕ}
use mathlib.Core.Path.{◌≡◌}
use native.Mathlib.Omega.{arith}
use Rattle.std.specs.declared.result.Result.TheVariants.{Err}
use Rattle.rule_number.specs.Number.{number_of, output_too_short_number, out_of_steps_number}
use Rattle.rule_number.specs.declared.OutputTooShort.{OutputTooShort}
use Rattle.rule_number.specs.declared.OutOfSteps.{OutOfSteps}

-- a `Result`'s number that is 0 for a refusal, too
pub refusal_told_as_0 : (e : OutputTooShort) → ◌≡◌ {A = ℕ} 0 (number_of {A = ℕ} output_too_short_number (Err e)) → ⊥
refusal_told_as_0 e h = omega arith

-- one number for both refusals
pub one_number_for_both : (n : ℕ) (e : OutputTooShort) (f : OutOfSteps) → n ≡ output_too_short_number e → n ≡ out_of_steps_number f → ⊥
one_number_for_both n e f g h = omega arith
