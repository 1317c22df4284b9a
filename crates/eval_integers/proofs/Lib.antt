pub mod BitLaw
pub mod PowLaw
pub mod NumberLaw
pub mod SumLemmas
