pub mod SetLaws
pub mod IdentityLaw
