pub mod Places
pub mod Listing
pub mod Adding
pub mod Rules
