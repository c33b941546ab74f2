-- `Transfers` is about when a transfer is whole or short, `Cases` has one law for each way that a finish can go, `Ends` what holds of every finish,
-- `Unique` that answers that a contract allows are equal, `SectorFinish` what a finish tells of sectors and what it told of them before, `Wrong`
-- programs that the contracts rule out.
pub mod Transfers
pub mod Cases
pub mod Ends
pub mod Unique
pub mod SectorFinish
pub mod Wrong
