pub mod Words
pub mod Spelling
pub mod Levels
pub mod Depth
pub mod ModuleWords
pub mod ModuleRules
pub mod Instances
