pub mod Operators
pub mod Locals
pub mod Said
pub mod Parts
