mod Added
mod Pairs
pub mod AlikeLemmas
