pub mod Asked
pub mod Loaded
