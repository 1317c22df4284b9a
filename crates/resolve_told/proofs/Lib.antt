pub mod Named
pub mod Running
pub mod Scoped
pub mod Spread
pub mod Walk
