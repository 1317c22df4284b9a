pub mod Truth
pub mod Variables
pub mod Masks
