pub mod Placed
pub mod Satisfying
pub mod Owning
pub mod Canonical
