pub mod Ranges
pub mod Climbing
pub mod Owning
