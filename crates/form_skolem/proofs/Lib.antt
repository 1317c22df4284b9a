mod Running
pub mod Labels
pub mod Made
pub mod Steps
pub mod Opening
pub mod Typing
