pub mod Sharing
pub mod Wholeness
pub mod Covering
pub mod Marking
pub mod News
pub mod Counting
pub mod Searching
