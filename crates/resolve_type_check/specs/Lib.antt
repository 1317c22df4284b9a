pub mod Typed
pub mod Steps
pub mod Same
pub mod Closed
pub mod Names
pub mod Forms
pub mod Levels
