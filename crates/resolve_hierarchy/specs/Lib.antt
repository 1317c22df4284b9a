pub mod Above
pub mod Overlap
pub mod Refused
pub mod Rules
