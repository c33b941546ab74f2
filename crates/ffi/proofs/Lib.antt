-- Uploads: `Stepping` and `Handing` have what the loops over steps and over parts keep, and how each is left, `UploadsTold` what a number says of the
-- rest of the drive, `WrongUploads` programs that the contracts rule out.
-- Sectors: `SectorsTold` has what a number says of the rest of the call, `Counts` what the two counts say of it, `WrongSectors` programs that the
-- contracts rule out.
-- Commands over numbers: `WrongFields` has programs that the contracts rule out.
pub mod Stepping
pub mod Handing
pub mod UploadsTold
pub mod WrongUploads
pub mod SectorsTold
pub mod Counts
pub mod WrongSectors
pub mod WrongFields
