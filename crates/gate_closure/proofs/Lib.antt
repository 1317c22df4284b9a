pub mod WalkLaw
pub mod FilterLaw
