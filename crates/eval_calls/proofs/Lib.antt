pub mod Weighed
pub mod RoundLemmas
pub mod CallLemmas
pub mod CongruentLemmas
