pub mod Tops
pub mod Own
pub mod Owned
