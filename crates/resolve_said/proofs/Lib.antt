pub mod Lists
pub mod Scopes
pub mod Taken
pub mod Rows
pub mod Candidates
pub mod Sums
pub mod Sides
pub mod Forms
