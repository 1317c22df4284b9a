pub mod Stored
pub mod Rows
pub mod Sets
pub mod Steps
pub mod Members
pub mod Logic
