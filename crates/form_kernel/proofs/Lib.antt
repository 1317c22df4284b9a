pub mod Operators
pub mod Single
pub mod Same
pub mod Left
pub mod Lists
pub mod Past
pub mod Parts
pub mod Promised
