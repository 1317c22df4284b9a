pub mod Naming
pub mod Decided
pub mod Reckoned
