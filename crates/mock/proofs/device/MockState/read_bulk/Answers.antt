-- A step of the session, put back into the record.
use mathlib.Core.Path.{ap}
use Rattle.mock.specs.Device.{read_bulk, with_session}
use Rattle.mock.proofs.device.MockState.read_bulk.Goals as goal

pub returns : goal.returns
unfolding read_bulk
returns c =
    let a = c.args in
    let m = c.read_step_by.ensures in
    rw (c.after_session.ensures, ← c.session.ensures)
    (record { tells = m.tells; next = ap (with_session a.self) m.next; leaves = m.leaves })
