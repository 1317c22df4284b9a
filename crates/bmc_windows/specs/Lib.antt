pub mod Frames
pub mod Pairing
