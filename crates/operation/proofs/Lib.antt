-- One operation: `Lists` has a law on bytes put behind others, `Cases` one law for each way that a step or a giving can go,
-- `Laws` what holds of every record, `Rounds` how many steps an operation takes, `Made` what holds of every record that calls from a start can make,
-- `Unique` that answers that a contract allows are equal, `Short` what a status of 4 bytes is read as, `ShortStep` when a step tells a transfer whole
-- or short, `Wrong` programs that the contracts rule out.
-- Its start: `StartRounds` says how many steps each operation takes, `StartUnique` that starts that a contract allows are equal, `WrongStarts` has
-- programs that the contracts rule out.
pub mod Lists
pub mod Cases
pub mod Laws
pub mod Rounds
pub mod Made
pub mod Unique
pub mod Short
pub mod ShortStep
pub mod Wrong
pub mod StartRounds
pub mod StartUnique
pub mod WrongStarts
