pub mod Answer
pub mod Expression
pub mod Judged
