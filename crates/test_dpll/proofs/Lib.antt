pub mod Growing
pub mod Progressing
pub mod Scanning
pub mod Solving
pub mod Standing
pub mod Turning
pub mod Values
