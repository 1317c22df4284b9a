mod Apart
mod Sets
mod Lassos
mod Again
mod Whole
mod Fits
mod Local
mod Sound
mod Progress
mod Built
mod Ended
mod Named
pub mod Bytes
pub mod LabelsApart
pub mod Atoms
pub mod Relations
pub mod Held
