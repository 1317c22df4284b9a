pub mod Outcome
pub mod Read
pub mod Spent
pub mod Step
pub mod Text
pub mod Words
