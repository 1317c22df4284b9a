pub mod Weight
pub mod Entered
