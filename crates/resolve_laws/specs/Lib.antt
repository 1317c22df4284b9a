pub mod Linked
pub mod Needed
pub mod Occurs
pub mod One
pub mod Readings
pub mod Rows
pub mod Said
