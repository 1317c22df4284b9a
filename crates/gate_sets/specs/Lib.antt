pub mod Belonging
pub mod Sets
