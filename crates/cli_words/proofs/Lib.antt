pub mod Decimals
pub mod Faults
pub mod Simple
