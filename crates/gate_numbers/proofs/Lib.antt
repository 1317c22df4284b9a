pub mod CountLaw
pub mod Wrapping
