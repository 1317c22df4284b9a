pub mod Measured
pub mod Weights
pub mod Levels
