pub mod Children
pub mod Unions
pub mod Asked
pub mod Added
pub mod Targets
