pub mod Trees
pub mod Past
pub mod Columns
pub mod Models
pub mod Types
pub mod Kernel
