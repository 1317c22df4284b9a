pub mod OneLine
pub mod TableRows
pub mod Text
