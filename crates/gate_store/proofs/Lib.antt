pub mod GateEq
pub mod Indexed
pub mod Laws
