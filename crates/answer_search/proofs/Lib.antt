mod ClausesLaw
pub mod FilledLaw
mod FirstLaw
mod MetLaw
mod NamedLaw
mod NewLaw
mod NoneLaw
mod OnceLaw
mod RowsLaw
mod SayLaw
mod StandsLaw
