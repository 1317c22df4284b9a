pub mod FoldLemmas
pub mod SameLemmas
pub mod ShiftLemmas
pub mod WindowLemmas
