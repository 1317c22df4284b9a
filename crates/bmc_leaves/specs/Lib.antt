pub mod Loops
pub mod Table
pub mod Numbers
pub mod Shown
pub mod Relations
pub mod Lying
