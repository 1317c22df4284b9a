pub mod DepthLaws
pub mod RootLaws
pub mod DecodedLaws
pub mod LetlessLaws
