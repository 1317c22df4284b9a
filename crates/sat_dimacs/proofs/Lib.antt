pub mod Lines
pub mod Satisfying
