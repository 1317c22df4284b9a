pub mod Rounds
pub mod StepLaw
pub mod Gather
pub mod EarlierLaw
pub mod PartLaw
