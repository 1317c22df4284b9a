pub mod FoundLaws
pub mod WalkLaws
pub mod RightLaws
pub mod EveryLaws
pub mod LevelLaws
pub mod LeafLaws
pub mod NameLaws
pub mod ApartLaws
pub mod EachLaws
pub mod FormLaws
pub mod ChoiceLaws
pub mod NumberLaws
pub mod ArrowLaws
pub mod SumLaws
mod ReadyLaws
