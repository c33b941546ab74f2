-- An append's answer, as the device gives it.
use mathlib.Core.Path.{◌≡◌, refl, ap}
use mathlib.Core.List.{[]}
use Rattle.promise.specs.Told.{Told, refused}
use Rattle.protocol_bytes.specs.Signature.{no_signature}
use Rattle.mock_areas.specs.Append.{area_told}
use Rattle.mock_base.specs.Told.{Answers, error_values}
use Rattle.mock_base.specs.declared.error.MockTransportError.TheVariants as error
use Rattle.mock_base.proofs.Telling.{answers_error, answers_done}
use Rattle.mock.specs.Code.{area_error, area_result}
use Rattle.std.specs.Prelude.{Result, MatchResult, IsErrAnd}
use Rattle.mock_base.specs.declared.error.MockTransportError.{MockTransportError}
use Rattle.mock_areas.specs.declared.AreaError.{AreaError}
use Rattle.std.specs.declared.result.Result.TheVariants.{Ok, Err}
use Rattle.mock_areas.specs.declared.AreaError.TheVariants as area

pub area_answers : (answer : Result Unit AreaError) {told : Told Unit} → area_told answer ≡ told
    → Answers (record { result = area_result answer; signature = no_signature }) told
unfolding area_told area_error area_result error_values
area_answers (Ok done) e = rw (← e) answers_done
area_answers (Err area.NoSlot) e = rw (← e) (answers_error error.NoSlot (refused 58 []) refl)
area_answers (Err area.SlotFull) e = rw (← e) (answers_error error.SlotFull (refused 59 []) refl)

-- its refusal as the device's
pub told_as_device : (P : AreaError → MockTransportError → Type 0) → ((refusal : AreaError) (told : MockTransportError) → P refusal told → told ≡ area_error refusal)
    → (answer : Result Unit AreaError) (result : Result Unit MockTransportError)
    → MatchResult answer (λ done. result ≡ Ok done) (λ refusal. IsErrAnd result (P refusal)) → result ≡ area_result answer
unfolding area_result
told_as_device P same (Ok done) result e = e
told_as_device P same (Err refusal) (Ok done) e = absurd e
told_as_device P same (Err refusal) (Err told) e = ap Err (same refusal told e)
