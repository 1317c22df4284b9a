pub mod SetOf
pub mod Rows
