pub mod Signing
pub mod Placing
pub mod Filing
pub mod Taking
