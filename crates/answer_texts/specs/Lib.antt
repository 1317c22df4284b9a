pub mod Lines
pub mod Ring
pub mod Answers
pub mod Facts
pub mod Judged
pub mod Certified
pub mod Table
pub mod Kept
