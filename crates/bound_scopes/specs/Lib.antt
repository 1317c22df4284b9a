pub mod Numbers
pub mod Listed
pub mod Roots
pub mod Wide
pub mod Deep
pub mod Limits
