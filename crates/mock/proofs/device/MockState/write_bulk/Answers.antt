-- A step of the session, put back into the record.
use mathlib.Core.Path.{ap}
use Rattle.mock.specs.Device.{write_bulk, with_session}
use Rattle.mock.proofs.device.MockState.write_bulk.Goals as goal

pub returns : goal.returns
unfolding write_bulk
returns c =
    let a = c.args in
    let m = c.write_step_by.ensures in
    rw (c.after_session.ensures, ← c.session.ensures)
    (record { tells = m.tells; next = ap (with_session a.self) m.next; leaves = m.leaves })
