pub mod Repeats
pub mod Windows
