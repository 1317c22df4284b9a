pub mod Sets
pub mod Index
pub mod Merged
