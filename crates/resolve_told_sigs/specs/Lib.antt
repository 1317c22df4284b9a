pub mod Words
pub mod Kinds
pub mod Own
pub mod Says
pub mod Walks
pub mod Told
pub mod Integers
