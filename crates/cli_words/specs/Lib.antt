pub mod Given
pub mod Line
pub mod Named
pub mod Numbers
pub mod Settings
