pub mod Noted
pub mod Resolved
pub mod Hints
pub mod Learnt
