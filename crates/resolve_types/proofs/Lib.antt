pub mod Addition
pub mod Meetings
pub mod StepLemmas
