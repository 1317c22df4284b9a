pub mod Members
pub mod Singles
