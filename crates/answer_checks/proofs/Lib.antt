pub mod Lists
pub mod Apart
pub mod Placed
pub mod Whole
pub mod Narrower
pub mod Kept
pub mod BelowLaws
pub mod Placings
