-- What the exported functions come to. `Drive` is an upload driven to its end over one output, with a budget of calls, `Code` what the private
-- functions promise, `Sectors` one sector operation at a fresh stand-in, `Command` a command as one number.
pub mod Drive
pub mod Code
pub mod Sectors
pub mod Command
