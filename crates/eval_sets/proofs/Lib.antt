pub mod ApartLaw
pub mod AtomLaw
pub mod Gather
pub mod Members
pub mod OperatorLaw
pub mod RowLaw
pub mod SizeLaw
pub mod WalkLaw
