pub mod Compared
pub mod Amounts
