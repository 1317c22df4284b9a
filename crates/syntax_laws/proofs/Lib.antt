pub mod Symbols
pub mod Longest
pub mod Pieces
pub mod Divided
mod Lists
mod Trees
mod Modules
