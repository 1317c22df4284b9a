pub mod Turns
pub mod Lists
pub mod Ancestors
pub mod Joined
pub mod Said
