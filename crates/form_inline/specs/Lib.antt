pub mod CallFree
pub mod Written
