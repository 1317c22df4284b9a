pub mod Outcome
pub mod Kept
