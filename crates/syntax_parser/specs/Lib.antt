pub mod Begins
pub mod Refuses
