-- The areas of a store: `Slots` says where an area stands, `Append` what a write to it does, `Contents` what it holds,
-- `Reached` what writes from a fresh start make of the slots.
pub mod Slots
pub mod Append
pub mod Contents
pub mod Reached
