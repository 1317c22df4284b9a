pub mod Matrices
pub mod Merged
pub mod Joined
pub mod Questions
