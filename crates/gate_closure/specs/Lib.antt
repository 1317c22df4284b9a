pub mod Walks
pub mod Filters
