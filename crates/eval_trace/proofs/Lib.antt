pub mod TruthLaw
pub mod SetLaw
pub mod FrontLaw
pub mod AllLaw
pub mod SigLaw
pub mod FieldLaw
pub mod RoundLaw
