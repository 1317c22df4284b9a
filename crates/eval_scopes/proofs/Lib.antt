pub mod PlaceLaw
pub mod BoundLaw
pub mod KeepLaw
