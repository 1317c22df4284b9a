pub mod FaultLaw
pub mod NoneLaw
