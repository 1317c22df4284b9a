mod Lists
mod Adding
mod SigParts
mod FieldParts
mod Closed
mod ChildLists
mod Tails
mod Binders
pub mod Targets
