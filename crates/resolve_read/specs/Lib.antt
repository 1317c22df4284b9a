pub mod At
pub mod Candidates
pub mod Reads
