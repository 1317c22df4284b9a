pub mod PowLaw
pub mod SetLaw
pub mod WindowLaw
