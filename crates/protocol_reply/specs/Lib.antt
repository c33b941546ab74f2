-- Replies. `Info` reads flash info, `Flags` the capabilities, `Media` the storage reply; `Sectors` says when a length is whole sectors.
pub mod Info
pub mod Flags
pub mod Media
pub mod Sectors
