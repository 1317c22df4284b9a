mod Taking
pub mod Hints
pub mod Keeping
pub mod Moving
