pub mod Assigning
pub mod Weaving
pub mod Sounding
pub mod Adding
pub mod Copying
pub mod Reasoning
pub mod Detaching
pub mod Attaching
