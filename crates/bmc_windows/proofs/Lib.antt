pub mod Adding
pub mod PairLaws
pub mod PushLemmas
