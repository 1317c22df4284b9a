pub mod Renamings
pub mod Environments
pub mod Targets
pub mod Sigs
pub mod Composed
pub mod Renamed
