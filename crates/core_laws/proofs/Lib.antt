mod Happening
mod Meanings
mod Satisfying
pub mod Climbs
mod Closed
pub mod Fields
pub mod Held
pub mod Members
pub mod Ranges
pub mod Rows
pub mod Standing
pub mod Terms
pub mod ListedLemmas
pub mod UniqueLemmas
