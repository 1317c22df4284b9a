pub mod Asked
pub mod Clauses
pub mod Definitions
pub mod Linking
pub mod Marks
pub mod Naming
pub mod Ranges
pub mod WrittenLaw
