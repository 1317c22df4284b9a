mod Certified
pub mod Fetched
pub mod OnModel
pub mod OnRing
pub mod Questions
