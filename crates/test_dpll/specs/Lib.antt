pub mod Path
pub mod Progress
pub mod Scan
pub mod Search
pub mod Steps
