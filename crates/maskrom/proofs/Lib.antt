-- `Lists` has laws on lists, `Cases` one law for each branch of a definition, `Unique` that one promise allows one answer, `Numbers` that an answer's
-- number is that of what it tells, `Writes` that no call writes past a block, `Wrong` and `WrongCopies` programs that the contracts rule out. `Branches` serves what is shown of any call and of any
-- sequence of calls: what an empty part does (`EmptyPart`), what a transfer is and touches (`Transfers`), when the image is shut (`Shut`) and when it
-- is not yet (`Open`), that the finish repeats (`Finishes`), and what is known of a record that calls from a fresh start can make (`PartMade`,
-- `WholeMade`).
pub mod Lists
pub mod Cases
pub mod Unique
pub mod Numbers
pub mod Writes
pub mod Wrong
pub mod WrongCopies
pub mod Branches
pub mod EmptyPart
pub mod Transfers
pub mod Shut
pub mod Open
pub mod Finishes
pub mod PartMade
pub mod WholeMade
