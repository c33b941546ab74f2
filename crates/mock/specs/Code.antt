-- The steps as the code makes them, for the contracts of its private functions.
use Rattle.protocol_bytes.specs.Signature.{no_signature}
use Rattle.mock_areas.specs.declared.AreaStep.{AreaStep}
use Rattle.mock_base.specs.declared.error.MockTransportError.{MockTransportError}
use Rattle.mock_base.specs.declared.error.MockTransportError.TheVariants as error
use Rattle.mock_effects.specs.declared.SessionStep.{SessionStep}
use Rattle.mock.specs.Device.{with_session, with_areas}
use Rattle.mock.specs.declared.device.MockState.{MockState}
use Rattle.mock.specs.declared.device.MockStep.{MockStep}
use Rattle.std.specs.Prelude.{Result}
use Rattle.mock_areas.specs.declared.AreaError.{AreaError}
use Rattle.std.specs.declared.result.Result.TheVariants.{Ok, Err}
use Rattle.mock_areas.specs.declared.AreaError.TheVariants as area

-- what an area answers, as an answer of the device
unfoldable pub area_error : AreaError → MockTransportError
area_error area.NoSlot = error.NoSlot
area_error area.SlotFull = error.SlotFull

unfoldable pub area_result : Result Unit AreaError → Result Unit MockTransportError
area_result (Ok done) = Ok tt
area_result (Err refusal) = Err (area_error refusal)

-- the steps
abbrev pub after_session : MockState → SessionStep → MockStep
after_session s step = record { answer = step.answer; state = with_session s step.session }

abbrev pub after_areas : MockState → AreaStep → MockStep
after_areas s step = record { answer = record { result = area_result step.answer; signature = no_signature }; state = with_areas s step.areas }

abbrev pub refused_by : MockState → MockTransportError → MockStep
refused_by s e = record { answer = record { result = Err e; signature = no_signature }; state = s }
