pub mod Left
pub mod Names
pub mod Parts
pub mod Operators
pub mod Single
pub mod Written
