pub mod Printed
pub mod Right
pub mod Within
