pub mod Least
pub mod Parts
pub mod Core
pub mod Kept
pub mod Certificate
pub mod Named
pub mod Encoded
