pub mod StoreLaws
pub mod RowLaws
pub mod WindowLaws
pub mod PlaceLaws
pub mod MemberLaws
