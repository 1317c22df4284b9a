pub mod Told
pub mod Firsts
