-- By cases on the device's answer; an empty giving writes nothing.
use mathlib.Core.Path.{ap, sym, ◌∙◌}
use mathlib.Core.List.{List}
use Prim.Native.Nat.{ℕ}
use lib.ListN.{length}
use Rattle.promise.specs.Bytes.{front}
use Rattle.operation.specs.Give.{usb_give}
use Rattle.run_turn.specs.Code.{where_done}
use Rattle.run_turn.proofs.Meets.{empty_put}
use Rattle.run_turn.proofs.given_after.Goals as goal
use Rattle.std.specs.Prelude.{Result}
use Rattle.mock_base.specs.declared.error.MockTransportError.{MockTransportError}

pub returns-in_default-clause-value : goal.returns-in_default-clause-value
returns-in_default-clause-value c =
    let a = c.args in
    ap (λ (x : Result Unit MockTransportError). where_done x (usb_give a.operation a.bytes.now (length a.room.now)).next a.operation) (sym c.in_default.is)

pub returns-clause-value : goal.returns-clause-value
returns-clause-value c =
    let a = c.args in
    c.give-given.ensures.next
    ∙ ap (λ (x : Result Unit MockTransportError). where_done x (usb_give a.operation a.bytes.now (length a.room.now)).next a.operation) (sym c.in-Ok.is)

pub returns-clause-room_unchanged : goal.returns-clause-room_unchanged
returns-clause-room_unchanged c =
    λ e.
    let a = c.args in
    c.give-given.ensures.leaves
    ∙ ap (λ (l : List ℕ). front (usb_give a.operation l (length a.room.now)).sent a.room.now) e
    ∙ ap (λ (l : List ℕ). front l a.room.now) (empty_put a.operation.asked a.operation (length a.room.now))
