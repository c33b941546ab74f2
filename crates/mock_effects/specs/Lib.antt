-- A bulk call over the session: `Effects` is what the table's effects do to lent bytes, and the status that they answer, `Steps` the call, `Cells` a
-- byte of a NOR flash.
pub mod Effects
pub mod Steps
pub mod Cells
