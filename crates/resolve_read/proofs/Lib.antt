pub mod Scopes
pub mod Picking
mod Settled
mod Behind
mod Forms
mod Rows
