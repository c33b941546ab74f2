-- The vocabulary of every contract. `Told` is what an answer tells, `Rules` an order of refusals, `Bytes` byte order and a buffer's front, `Over`
-- bytes put over a part of a buffer, `Does` what comes of a call and the shape of a promise, `Run` turns counted against a budget.
pub mod Told
pub mod Rules
pub mod Bytes
pub mod Over
pub mod Does
pub mod Run
