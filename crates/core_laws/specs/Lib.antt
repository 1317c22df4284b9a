pub mod Integers
pub mod Listed
pub mod Sequences
pub mod Typed
