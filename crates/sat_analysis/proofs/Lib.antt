pub mod Noting
pub mod Trailing
pub mod Stepping
pub mod Parting
pub mod Passing
pub mod Gathering
pub mod Taking
pub mod Newness
