mod Copies
pub mod RowLemmas
