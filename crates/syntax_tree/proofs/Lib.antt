pub mod Spells
pub mod Depths
pub mod Shapes
pub mod Lists
