pub mod Causes
pub mod Memory
pub mod Place
pub mod Texts
