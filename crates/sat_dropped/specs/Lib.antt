pub mod Part
pub mod Entries
pub mod Kept
