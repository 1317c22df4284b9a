pub mod Names
pub mod Fits
pub mod Parameters
pub mod Kept
