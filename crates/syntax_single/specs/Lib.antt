pub mod Placeless
pub mod PlacelessModule
pub mod Single
