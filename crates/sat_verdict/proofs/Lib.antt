pub mod Turning
pub mod Verdicts
