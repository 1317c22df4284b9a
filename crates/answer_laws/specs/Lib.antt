pub mod Form
pub mod Fault
pub mod Labelled
