pub mod Agreeing
pub mod Compacting
pub mod Distinct
pub mod Marking
pub mod Standing
pub mod Tabling
