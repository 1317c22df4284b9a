pub mod Depths
pub mod Firsts
pub mod Encodes
pub mod Letless
