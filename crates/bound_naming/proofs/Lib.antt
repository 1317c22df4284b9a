mod Indexing
pub mod Finding
mod Matching
mod StateLists
mod IndexLaws
mod PartnerLaws
mod States
mod NeighbourLaws
mod Deciding
