pub mod Claims
pub mod Runs
pub mod Opened
pub mod Steps
