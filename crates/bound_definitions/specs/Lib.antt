pub mod Numbers
pub mod Places
pub mod Rules
pub mod Mentions
pub mod Depth
pub mod Trees
pub mod Refusals
