pub mod Firsts
pub mod Order
