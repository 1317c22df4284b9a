pub mod Asked
pub mod One
