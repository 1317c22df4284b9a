pub mod Again
pub mod Lines
pub mod Places
pub mod Rightness
pub mod Clauses
