pub mod Machine
pub mod Modules
pub mod Threads
pub mod Stacks
pub mod Law
pub mod Deaths
