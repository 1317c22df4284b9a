pub mod Allowed
pub mod Outcome
pub mod Promises
