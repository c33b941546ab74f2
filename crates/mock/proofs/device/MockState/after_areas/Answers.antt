-- The areas are put back into the record, and their refusal is told as the device's.
use mathlib.Core.Path.{ap}
use borrow.Author.Rules.{rules}
use Rattle.protocol_bytes.specs.Signature.{no_signature}
use Rattle.mock_base.specs.declared.error.MockTransportError.{MockTransportError}
use Rattle.std.specs.Prelude.{Result}
use Rattle.mock.specs.Device.{with_areas}
use Rattle.mock.proofs.Appended.{told_as_device}
use Rattle.mock.proofs.device.MockState.after_areas.Goals as goal

pub returns : goal.returns
returns c =
    let a = c.args in
    ap
    (λ (r : Result Unit MockTransportError). record { answer = record { result = r; signature = no_signature }; state = with_areas a.self a.step.areas })
    (told_as_device _ (λ refusal told q. search rules) a.step.answer c.map_err.result c.map_err.ensures.cases)
